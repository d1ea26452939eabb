use Rattle.pm_map.specs.Moves.{is_before}
use Rattle.pm_map.proofs.Joins.{one-in-front}
use Rattle.pm_map.proofs.laws.moves_in_front.Goals as goal

pub returns : goal.returns
returns c = λ p side. one-in-front c.args.mapping.now c.args.map.now (is_before side) p
