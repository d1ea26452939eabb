use Rattle.std.proofs.Common.{◌+◌, ◌*◌, length}
use Rattle.pm_node.specs.Trees.{node_tokens, list_tokens}
use Rattle.pm_build.proofs.crossing.OpenTypes.+cross.Given as goal

abbrev pub decreases-cross : goal.decreases-cross
decreases-cross l = 4 * length l.source.now + 3

abbrev pub decreases-cross_between : goal.decreases-cross_between
decreases-cross_between l = 4 * length (list_tokens l.nodes.now) + 2

abbrev pub decreases-cross_child : goal.decreases-cross_child
decreases-cross_child l = 4 * length (node_tokens l.node.now) + 1

abbrev pub decreases-cross_part : goal.decreases-cross_part
decreases-cross_part l = 4 * length (node_tokens l.node.now)
