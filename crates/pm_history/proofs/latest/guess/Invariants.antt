use Rattle.std.proofs.Common.{◌<◌, length}
use Rattle.pm_history.proofs.latest.guess.Given as goal

abbrev pub invariant-loop-left : goal.invariant-loop-left
invariant-loop-left g l = l.place < length l.items

abbrev pub decreases-loop-left : goal.decreases-loop-left
decreases-loop-left g l = l.left
