use Rattle.std.proofs.Common.{◌≤◌, drop, length}
use Rattle.pm_history.specs.Live.{IsTableOfNames}
use Rattle.pm_history.proofs.live.Live.of.Given as goal

abbrev pub invariant-loop-i : goal.invariant-loop-i
invariant-loop-i l = record {
  within : l.i ≤ length l.names;
  table : IsTableOfNames l.live (drop l.i l.names);
}

abbrev pub decreases-loop-i : goal.decreases-loop-i
decreases-loop-i l = l.i
