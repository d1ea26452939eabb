use Rattle.std.proofs.Common.{◌+◌, ◌*◌, ◌≤◌, ◌↔◌, length}
use Rattle.pm_tokens.specs.Scan.{deepest}
use Rattle.pm_node.specs.Trees.{node_tokens}
use Rattle.pm_node.proofs.WalkLaws.{rest}
use Rattle.pm_node.proofs.depth.+depth.Given as goal

abbrev pub invariant-nests_within-loop-i : goal.invariant-nests_within-loop-i
invariant-nests_within-loop-i l = (deepest 0 l.content ≤ l.levels) ↔ (deepest 0 (rest l.children l.i) ≤ l.levels)

abbrev pub decreases-nests_within : goal.decreases-nests_within
decreases-nests_within l = 2 * length l.content.now + 1

abbrev pub decreases-node_nests_within : goal.decreases-node_nests_within
decreases-node_nests_within l = 2 * length (node_tokens l.node.now)
