use Rattle.pm_laws.proofs.NothingUnknown.{none-unknown}
use Rattle.pm_laws.proofs.laws.none_is_unknown.Goals as goal

pub returns : goal.returns
returns c = none-unknown c.args.schema.now
