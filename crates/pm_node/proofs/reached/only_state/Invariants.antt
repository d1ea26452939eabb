use Rattle.std.proofs.Common.{◌<◌, ◌-◌, ℕ, length, get_or}
use Rattle.pm_node.specs.Reached.{IsAmong, AreBelow, LeadInto}
use Rattle.pm_node.proofs.reached.only_state.Given as goal

abbrev pub invariant-loop-i : goal.invariant-loop-i
invariant-loop-i l = record {
  below : AreBelow (length l.automaton.sets) l.found.items;
  start : IsAmong l.found.items 0;
  closed : (j : ℕ) → j < l.i → LeadInto l.automaton.edges (get_or l.found.items j 0) l.found.items;
}

abbrev pub decreases-loop-i : goal.decreases-loop-i
decreases-loop-i l = 33 - l.i
