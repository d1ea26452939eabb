use Rattle.std.proofs.Common.{◌≡◌, ◌-◌, ◌≤◌, ◌++◌, length, take, drop, map}
use Rattle.pm_history.specs.Remembers.{names_of}
use Rattle.pm_history.specs.Trims.{thinned}
use Rattle.pm_history.proofs.trimming.thin_kept.Given as goal

abbrev pub invariant-loop-i : goal.invariant-loop-i
invariant-loop-i g l = record {
  within : l.i ≤ l.count;
  counted : length l.items.items ≡ l.count;
  same : take l.i l.items.items ++ map (thinned (names_of l.undo ++ names_of l.redo)) (drop l.i l.items.items) ≡ map (thinned (names_of l.undo ++ names_of l.redo)) l.initial.items.items;
}

abbrev pub decreases-loop-i : goal.decreases-loop-i
decreases-loop-i g l = l.count - l.i
