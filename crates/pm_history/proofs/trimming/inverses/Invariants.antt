use Rattle.std.proofs.Common.{◌≡◌, ◌+◌, ◌≤◌, ◌++◌, drop}
use Rattle.pm_history.specs.Remembers.{names_of}
use Rattle.pm_history.specs.Trims.{inverses}
use Rattle.pm_history.proofs.trimming.inverses.Given as goal

abbrev pub invariant-loop-item : goal.invariant-loop-item
invariant-loop-item g l = record {
  within : l.count ≤ l.item-index;
  same : l.count + inverses (names_of l.undo ++ names_of l.redo) (drop l.item-index l.items) ≡ inverses (names_of l.undo ++ names_of l.redo) l.items;
}
