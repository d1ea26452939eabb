use Rattle.pm_map.specs.Moves.{is_before}
use Rattle.pm_map.proofs.Joins.{goes-on}
use Rattle.pm_map.proofs.laws.goes_on.Goals as goal

pub returns : goal.returns
returns c = λ p side. goes-on c.args.first.now c.args.second.now (is_before side) p c.paired.ensures
