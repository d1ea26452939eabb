use Rattle.std.proofs.Common.{◌≡◌, drop, ◌++◌, ◌≤◌, length}
use Rattle.pm_history.specs.Undos.{undo_event}
use Rattle.pm_history.specs.Shows.{ShowsTo}
use Rattle.pm_history.proofs.undoing.undo_from.Given as goal

abbrev pub invariant-loop-i : goal.invariant-loop-i
invariant-loop-i g l = record {
  within : l.i ≤ length l.names;
  shows : ShowsTo g.C.Change.means l.rules (l.items ++ l.undone.items) l.undone.doc;
  same : l.undone ≡ undo_event g.C.Change.means l.rules l.client (drop l.i l.names) l.items l.fn.doc l.serial;
}

abbrev pub decreases-loop-i : goal.decreases-loop-i
decreases-loop-i g l = l.i
