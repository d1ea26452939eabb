use Rattle.std.proofs.Common.{arith, ◌<◌, length}
use Rattle.pm_value.proofs.Members.{item-falls, field-falls}
use Rattle.pm_replace.proofs.values.+values.Goals as goal

pub values_are_within-value_is_within-requires : goal.values_are_within-value_is_within-requires
values_are_within-value_is_within-requires t c =
    let within : c.loop-value.value-index < length c.args.values.now = omega arith in
    (omega (arith, c.decreases, item-falls c.args.values.now c.loop-value.value-index c.value-item.result within c.value-item.is), tt)

pub fields_are_within-value_is_within-requires : goal.fields_are_within-value_is_within-requires
fields_are_within-value_is_within-requires t c =
    let within : c.loop-field.field-index < length c.args.fields.now = omega arith in
    (omega (arith, c.decreases, field-falls c.args.fields.now c.loop-field.field-index c.field-item.result within c.field-item.is), tt)
