use Rattle.std.proofs.Common.{◌≡◌, ℕ, ◌<◌, false}
use Rattle.pm_text.specs.Lone.{is_lone_at}
use Rattle.pm_text.proofs.lone.first_lone.Given as goal

abbrev pub invariant-loop-i : goal.invariant-loop-i
invariant-loop-i l = (j : ℕ) → j < l.i → is_lone_at l.units j ≡ false
