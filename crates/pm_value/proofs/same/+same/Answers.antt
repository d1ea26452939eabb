use Rattle.std.proofs.Common.{arith, ◌<◌, length}
use Rattle.pm_value.proofs.Members.{item-falls, field-falls}
use Rattle.pm_value.proofs.Equality.{values-differ, pairs-differ}
use Rattle.pm_value.proofs.same.+same.Goals as goal

pub same_values-returns-then-left-right : goal.same_values-returns-then-left-right
same_values-returns-then-left-right t c = values-differ c.args.left.now c.args.right.now c.if-left-right.true

pub same_fields-returns-then-left-right : goal.same_fields-returns-then-left-right
same_fields-returns-then-left-right t c = pairs-differ c.args.left.now c.args.right.now c.if-left-right.true

pub same_values-same_value-requires : goal.same_values-same_value-requires
same_values-same_value-requires t c =
    let within : c.loop-i.i < length c.args.left.now = omega arith in
    (omega (arith, c.decreases, item-falls c.args.left.now c.loop-i.i c.index-left-i.result within c.index-left-i.is), tt)

pub same_fields-same_value-requires : goal.same_fields-same_value-requires
same_fields-same_value-requires t c =
    let within : c.loop-i.i < length c.args.left.now = omega arith in
    (omega (arith, c.decreases, field-falls c.args.left.now c.loop-i.i c.index-left-i.result within c.index-left-i.is), tt)
