use Rattle.std.proofs.Common.{◌+◌, ◌*◌, ◌≤◌, length}
use Rattle.pm_node.specs.Trees.{node_tokens, list_tokens}
use Rattle.pm_view.proofs.DepthLaws.{Looked}
use Rattle.pm_view.proofs.walk.+deep.Given as goal

abbrev pub invariant-depth_within-loop-i : goal.invariant-depth_within-loop-i
invariant-depth_within-loop-i l = Looked l.children l.i l.at l.from l.to l.most × (l.most ≤ length (list_tokens l.children))

abbrev pub decreases-depth_within : goal.decreases-depth_within
decreases-depth_within l = 2 * length l.content.now + 1

abbrev pub decreases-depth_in : goal.decreases-depth_in
decreases-depth_in l = 2 * length (node_tokens l.node.now)
