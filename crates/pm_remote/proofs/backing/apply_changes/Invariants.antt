use Rattle.pm_remote.proofs.Undoings.{IsFolded}
use Rattle.pm_remote.proofs.backing.apply_changes.Given as goal

abbrev pub invariant-loop-change : goal.invariant-loop-change
invariant-loop-change g l = IsFolded g.C.Change.means l.rules l.doc l.changes l.change-index l.so_far
