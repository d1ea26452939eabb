use Rattle.std.proofs.Common.{◌≡◌, ◌-◌, ◌≤◌, ◌++◌, length, take, drop}
use Rattle.pm_history.specs.Tied.{all_tied}
use Rattle.pm_history.proofs.tied.tie.Given as goal

abbrev pub invariant-loop-i : goal.invariant-loop-i
invariant-loop-i g l = record {
  within : l.i ≤ l.count;
  counted : length l.items.items ≡ l.count;
  same : take l.i l.items.items ++ all_tied l.old (drop l.i l.items.items) ≡ all_tied l.old l.initial.items.items;
}

abbrev pub decreases-loop-i : goal.decreases-loop-i
decreases-loop-i g l = l.count - l.i
