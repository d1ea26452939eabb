use Rattle.pm_apply.proofs.ValuedLaws.{place-head, place-text}
use Rattle.pm_apply.proofs.values.value_head.Goals as goal

pub with_value-requires : goal.with_value-requires
with_value-requires c = place-head c.args.place c.args.node.now c.requires

pub unreachable-requires : goal.unreachable-requires
unreachable-requires c = place-text c.args.place c.args.node.now c.in-Text.field-0 0 c.in-Text.is c.requires
