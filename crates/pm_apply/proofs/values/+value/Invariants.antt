use Rattle.std.proofs.Common.{◌+◌, ◌*◌, length}
use Rattle.pm_node.specs.Trees.{node_tokens}
use Rattle.pm_apply.proofs.values.+value.Given as goal

abbrev pub decreases-value_content : goal.decreases-value_content
decreases-value_content l = 2 * length l.content.now + 1

abbrev pub decreases-value_node : goal.decreases-value_node
decreases-value_node l = 2 * length (node_tokens l.node.now)
