use Rattle.std.proofs.Common.{◌≡◌, ℕ, ◌<◌}
use Rattle.std.specs.Prelude.{slice_index}
use Rattle.pm_units.specs.Pieces.{form_units}
use Rattle.pm_units.proofs.form.Form.same.Given as goal

abbrev pub invariant-loop-i : goal.invariant-loop-i
invariant-loop-i l = (j : ℕ) → j < l.i → slice_index (form_units l.self) j ≡ slice_index (form_units l.other) j
