use Rattle.pm_laws.proofs.Pinches.{apart-unpinched}
use Rattle.pm_laws.proofs.laws.apart_is_unpinched.Goals as goal

pub returns : goal.returns
returns c = apart-unpinched c.args.map.now
