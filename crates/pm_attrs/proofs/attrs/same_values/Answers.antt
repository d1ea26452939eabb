use Rattle.pm_value.proofs.Equality.{values-differ}
use Rattle.pm_attrs.proofs.attrs.same_values.Goals as goal

pub returns-then-left-right : goal.returns-then-left-right
returns-then-left-right c = values-differ c.args.left.now c.args.right.now c.if-left-right.true
