use Rattle.std.proofs.Common.{◌≡◌, ◌≤◌, length, drop, false}
use Rattle.pm_history.specs.Remembers.{names_of}
use Rattle.pm_history.specs.Starts.{is_named}
use Rattle.pm_history.proofs.live.is_named_in.Given as goal

abbrev pub invariant-loop-i : goal.invariant-loop-i
invariant-loop-i l = record {
  within : l.i ≤ length l.events;
  none : is_named (names_of (drop l.i l.events)) l.name ≡ false;
}

abbrev pub decreases-loop-i : goal.decreases-loop-i
decreases-loop-i l = l.i
