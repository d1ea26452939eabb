use Rattle.std.proofs.Common.{◌+◌, ◌*◌, length}
use Rattle.pm_node.specs.Trees.{node_tokens}
use Rattle.pm_build.proofs.position.+depth.Given as goal

abbrev pub decreases-depth_at : goal.decreases-depth_at
decreases-depth_at l = 2 * length l.content.now + 1

abbrev pub decreases-depth_in : goal.decreases-depth_in
decreases-depth_in l = 2 * length (node_tokens l.node.now)
