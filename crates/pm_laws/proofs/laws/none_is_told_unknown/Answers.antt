use Rattle.pm_laws.proofs.PlaysKnown.{none-told}
use Rattle.pm_laws.proofs.laws.none_is_told_unknown.Goals as goal

pub returns : goal.returns
returns c = none-told c.args.input.now
