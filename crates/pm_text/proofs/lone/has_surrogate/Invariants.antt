use Rattle.std.proofs.Common.{◌≡◌, ℕ, ◌<◌, false}
use Rattle.std.specs.Prelude.{◌||◌, slice_index}
use Rattle.std.specs.Char.Utf16.{is_high_surrogate, is_low_surrogate}
use Rattle.pm_text.proofs.lone.has_surrogate.Given as goal

abbrev pub invariant-loop-unit : goal.invariant-loop-unit
invariant-loop-unit l = l.any ≡ false → (j : ℕ) → j < l.unit-index → (is_high_surrogate (slice_index l.units j) || is_low_surrogate (slice_index l.units j)) ≡ false
