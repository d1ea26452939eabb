use Rattle.std.proofs.Common.{◌≡◌, ◌≤◌, ◌++◌, length}
use Rattle.pm_auto.specs.Near.{trail}
use Rattle.pm_auto.proofs.search.follow.Given as goal

abbrev pub invariant-steps : goal.invariant-steps
invariant-steps l = (l.left ≤ length l.rounds) × (trail l.links l.rounds (length l.rounds) l.start ≡ l.list ++ trail l.links l.rounds l.left l.node)

abbrev pub decreases-steps : goal.decreases-steps
decreases-steps l = l.left
