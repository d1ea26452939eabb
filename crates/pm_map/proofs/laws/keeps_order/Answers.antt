use Rattle.std.proofs.Common.{arith}
use Rattle.pm_map.specs.Moves.{is_before}
use Rattle.pm_map.proofs.Orders.{in-order}
use Rattle.pm_map.proofs.laws.keeps_order.Goals as goal

pub returns : goal.returns
returns c = λ p q side h. in-order c.args.map.now 0 0 0 0 p q (is_before side) c.ordered.ensures (omega arith) (omega arith) h
