use Rattle.std.proofs.Common.{arith}
use Rattle.pm_map.specs.Moves.{is_before}
use Rattle.pm_map.proofs.Orders.{outside}
use Rattle.pm_map.proofs.laws.outside_comes_back.Goals as goal

pub returns : goal.returns
returns c = λ p side back h. outside c.args.map.now 0 0 0 0 p (is_before side) (is_before back) c.ordered.ensures (omega arith) (omega arith) h
