use Rattle.std.proofs.Common.{◌≤◌, ◌-◌, drop, length}
use Rattle.pm_history.specs.Rising.{Rise}
use Rattle.pm_history.proofs.rising.rise.Given as goal

abbrev pub invariant-loop-i : goal.invariant-loop-i
invariant-loop-i g l = record {
  within : l.i ≤ length l.items;
  rise : Rise (drop (l.i - 1) l.items);
}

abbrev pub decreases-loop-i : goal.decreases-loop-i
decreases-loop-i g l = l.i
