use Rattle.pm_edit.proofs.Ops.{makes-some}
use Rattle.pm_edit.proofs.laws.makes_some.Goals as goal

pub returns : goal.returns
returns c = makes-some c.args.schema.now
