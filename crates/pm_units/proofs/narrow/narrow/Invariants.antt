use Rattle.std.proofs.Common.{◌≡◌, ◌<◌, length, ℕ, get_or}
use Rattle.pm_units.proofs.narrow.narrow.Given as goal

abbrev pub invariant-loop-i : goal.invariant-loop-i
invariant-loop-i l = ((j : ℕ) → j < l.i → get_or l.bytes j 0 ≡ get_or l.units j 0) × (length l.bytes ≡ length l.units)
