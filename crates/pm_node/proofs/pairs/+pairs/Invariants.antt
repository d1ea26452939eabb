use Rattle.std.proofs.Common.{◌+◌, ◌*◌, length}
use Rattle.pm_node.specs.Trees.{node_tokens}
use Rattle.pm_node.proofs.PairWalk.{Walked}
use Rattle.pm_node.proofs.pairs.+pairs.Given as goal

abbrev pub invariant-first_broken-loop-i : goal.invariant-first_broken-loop-i
invariant-first_broken-loop-i l = Walked l.children l.i l.fn.at l.at

abbrev pub decreases-first_broken : goal.decreases-first_broken
decreases-first_broken l = 2 * length l.content.now + 1

abbrev pub decreases-broken_in : goal.decreases-broken_in
decreases-broken_in l = 2 * length (node_tokens l.node.now)
