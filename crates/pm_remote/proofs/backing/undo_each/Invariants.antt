use Rattle.pm_remote.proofs.Undoings.{AreUndone}
use Rattle.pm_remote.proofs.backing.undo_each.Given as goal

abbrev pub invariant-loop-step : goal.invariant-loop-step
invariant-loop-step g l = AreUndone g.C.Change.means l.rules l.before l.steps l.step-index l.so_far l.all.items
