use Rattle.std.proofs.Common.{arith}
use Rattle.pm_map.proofs.Orders.{twice}
use Rattle.pm_map.proofs.laws.inverts_twice.Goals as goal

pub returns : goal.returns
returns c = twice c.args.map.now 0 0 0 c.ordered.ensures (omega arith)
