use Rattle.std.proofs.Common.{◌≡◌, ◌<◌, ℕ, true, false, get_or}
use Rattle.pm_schema.proofs.ends.dead_state.Given as goal

abbrev pub invariant-loop-state : goal.invariant-loop-state
invariant-loop-state l = (j : ℕ) → j < l.state → get_or l.ends j false ≡ true
