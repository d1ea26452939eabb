use Rattle.std.proofs.Common.{arith}
use Rattle.pm_node.proofs.around.child_at.Goals as goal

pub overflow_sub-result : goal.overflow_sub-result
overflow_sub-result c = omega (arith, c.find-found.ensures.offset)

pub returns-then-found-len : goal.returns-then-found-len
returns-then-found-len c = record { within = omega (arith, c.if-found-len.true, c.len.ensures); before = omega (arith, c.find-found.ensures.offset) }
