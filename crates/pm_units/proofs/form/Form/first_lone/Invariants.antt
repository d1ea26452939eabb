use Rattle.std.proofs.Common.{◌≡◌, ℕ, ◌<◌, false}
use Rattle.pm_text.specs.Lone.{is_lone_at}
use Rattle.pm_units.specs.Pieces.{form_units}
use Rattle.pm_units.proofs.form.Form.first_lone.Given as goal

abbrev pub invariant-loop-i : goal.invariant-loop-i
invariant-loop-i l = (j : ℕ) → j < l.i → is_lone_at (form_units l.self) j ≡ false
