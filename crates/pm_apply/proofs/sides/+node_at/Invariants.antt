use Rattle.std.proofs.Common.{◌+◌, ◌*◌, length}
use Rattle.pm_node.specs.Trees.{node_tokens}
use Rattle.pm_apply.proofs.sides.+node_at.Given as goal

abbrev pub decreases-node_at : goal.decreases-node_at
decreases-node_at l = 2 * length l.content.now + 1

abbrev pub decreases-node_in : goal.decreases-node_in
decreases-node_in l = 2 * length (node_tokens l.node.now)
