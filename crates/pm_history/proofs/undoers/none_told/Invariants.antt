use Rattle.std.proofs.Common.{◌≡◌, ◌≤◌, drop, length, false}
use Rattle.std.specs.List.{AllByRecursion as Each}
use Rattle.pm_history.specs.declared.item.Item.{Item}
use Rattle.pm_history.specs.Laters.{is_told}
use Rattle.pm_history.proofs.undoers.none_told.Given as goal

abbrev pub invariant-loop-i : goal.invariant-loop-i
invariant-loop-i g l = record {
  within : l.i ≤ length l.items;
  none : Each (λ (i : Item g.row.C.Denot). is_told l.all i ≡ false) (drop l.i l.items);
}

abbrev pub decreases-loop-i : goal.decreases-loop-i
decreases-loop-i g l = l.i
