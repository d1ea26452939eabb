use Rattle.std.proofs.Common.{◌≡◌, drop, ◌++◌}
use Rattle.pm_history.specs.Undos.{undo_steps, then_made}
use Rattle.pm_history.specs.Tries.{MayUndo}
use Rattle.pm_history.proofs.undoing.undo_steps.Given as goal

abbrev pub invariant-loop-step : goal.invariant-loop-step
invariant-loop-step g l = record {
  may : MayUndo g.C.Change.means l.rules (drop l.step-index l.steps) (l.later ++ l.undone.items) l.undone.doc;
  same : then_made l.initial.undone (undo_steps g.C.Change.means l.rules l.client l.name l.steps (l.later ++ l.initial.undone.items) l.initial.undone.doc l.initial.undone.serial)
      ≡ then_made l.undone (undo_steps g.C.Change.means l.rules l.client l.name (drop l.step-index l.steps) (l.later ++ l.undone.items) l.undone.doc l.undone.serial);
}
