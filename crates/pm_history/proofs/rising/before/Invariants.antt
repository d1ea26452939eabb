use Rattle.std.proofs.Common.{◌-◌, ◌+◌, ◌<◌, ◌≤◌, ℕ, length, get_or}
use Rattle.pm_history.specs.declared.item.Item.{Item}
use Rattle.pm_history.specs.Rising.{rank}
use Rattle.pm_history.proofs.rising.before.Given as goal

abbrev pub invariant-loop-low : goal.invariant-loop-low
invariant-loop-low g l = record {
  order : l.low ≤ l.high;
  within : l.high ≤ length l.items;
  below : (k : ℕ) (d : Item g.row.C.Denot) → k < l.low → rank (get_or l.items k d).name < l.serial + 1;
  above : (k : ℕ) (d : Item g.row.C.Denot) → l.high ≤ k → k < length l.items → l.serial + 1 ≤ rank (get_or l.items k d).name;
}

abbrev pub decreases-loop-low : goal.decreases-loop-low
decreases-loop-low g l = l.high - l.low
