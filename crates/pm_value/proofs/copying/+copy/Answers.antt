use Rattle.std.proofs.Common.{arith, ◌<◌, length}
use Rattle.pm_value.proofs.Members.{item-falls, field-falls}
use Rattle.pm_value.proofs.copying.+copy.Goals as goal

pub copy_values-copy_value-requires : goal.copy_values-copy_value-requires
copy_values-copy_value-requires t c =
    let within : c.loop-value.value-index < length c.args.values.now = omega arith in
    (omega (arith, c.decreases, item-falls c.args.values.now c.loop-value.value-index c.value-item.result within c.value-item.is), tt)

pub copy_fields-copy_value-requires : goal.copy_fields-copy_value-requires
copy_fields-copy_value-requires t c =
    let within : c.loop-field.field-index < length c.args.fields.now = omega arith in
    (omega (arith, c.decreases, field-falls c.args.fields.now c.loop-field.field-index c.field-item.result within c.field-item.is), tt)
