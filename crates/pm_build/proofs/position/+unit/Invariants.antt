use Rattle.std.proofs.Common.{◌+◌, ◌*◌, length}
use Rattle.pm_node.specs.Trees.{node_tokens}
use Rattle.pm_build.proofs.position.+unit.Given as goal

abbrev pub decreases-unit_at : goal.decreases-unit_at
decreases-unit_at l = 2 * length l.content.now + 1

abbrev pub decreases-unit_in : goal.decreases-unit_in
decreases-unit_in l = 2 * length (node_tokens l.node.now)
