use Rattle.std.proofs.Common.{◌≡◌, ◌≤◌, ◌++◌, List, length, drop}
use Rattle.pm_history.specs.declared.item.Item.{Item}
use Rattle.pm_history.specs.Undoers.{IsTableOf}
use Rattle.pm_history.proofs.undoers.Undoers.put_all.Given as goal

abbrev pub invariant-loop-i : goal.invariant-loop-i
invariant-loop-i g l = record {
  within : l.i ≤ length l.items;
  size : length l.self.nearest.items ≡ length l.initial.self.nearest.items;
  table : (is : List (Item g.row.C.Denot)) → IsTableOf l.initial.self is → IsTableOf l.self (drop l.i l.items ++ is);
}

abbrev pub decreases-loop-i : goal.decreases-loop-i
decreases-loop-i g l = l.i
