use Rattle.std.proofs.Common.{◌≤◌, drop, length}
use Rattle.pm_history.specs.Remembers.{Lacks}
use Rattle.pm_history.proofs.latest.looked_for.Given as goal

abbrev pub invariant-loop-i : goal.invariant-loop-i
invariant-loop-i g l = record {
  within : l.i ≤ length l.items;
  none : Lacks (drop l.i l.items) l.name;
}

abbrev pub decreases-loop-i : goal.decreases-loop-i
decreases-loop-i g l = l.i
