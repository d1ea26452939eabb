use Rattle.std.proofs.Common.{◌+◌, ◌*◌, length}
use Rattle.pm_node.specs.Trees.{node_tokens}
use Rattle.pm_node.proofs.around.+around.Given as goal

abbrev pub decreases-stays_valid_around : goal.decreases-stays_valid_around
decreases-stays_valid_around l = 2 * length l.before.now + 1

abbrev pub decreases-node_stays_valid : goal.decreases-node_stays_valid
decreases-node_stays_valid l = 2 * length (node_tokens l.before.now)
