use Rattle.pm_map.specs.Moves.{is_before}
use Rattle.pm_map.proofs.Joins.{one-behind}
use Rattle.pm_map.proofs.laws.moves_behind.Goals as goal

pub returns : goal.returns
returns c = λ p side. one-behind c.args.mapping.now c.args.map.now (is_before side) p c.paired.ensures
