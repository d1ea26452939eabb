use Rattle.std.proofs.Common.{◌+◌, ◌*◌, length}
use Rattle.pm_node.specs.Trees.{node_tokens}
use Rattle.pm_edit.proofs.beginning.+begins.Given as goal

abbrev pub decreases-begins_node : goal.decreases-begins_node
decreases-begins_node l = 2 * length l.content.now + 1

abbrev pub decreases-begins_in : goal.decreases-begins_in
decreases-begins_in l = 2 * length (node_tokens l.node.now)
