use Rattle.std.proofs.Common.{◌+◌, ◌*◌, length}
use Rattle.pm_node.specs.Trees.{node_tokens, list_tokens}
use Rattle.pm_slice.proofs.clipping.+clip.Given as goal

abbrev pub decreases-clip : goal.decreases-clip
decreases-clip l = 5 * length l.content.now + 4

abbrev pub decreases-clip_children : goal.decreases-clip_children
decreases-clip_children l = 5 * length (list_tokens l.children.now) + 3

abbrev pub decreases-put_first : goal.decreases-put_first
decreases-put_first l = 5 * length (list_tokens l.children.now) + 2

abbrev pub decreases-put_part : goal.decreases-put_part
decreases-put_part l = 5 * length (node_tokens l.node.now) + 1

abbrev pub decreases-clip_part : goal.decreases-clip_part
decreases-clip_part l = 5 * length (node_tokens l.node.now)
