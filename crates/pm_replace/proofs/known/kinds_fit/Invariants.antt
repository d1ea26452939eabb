use Rattle.std.proofs.Common.{◌≡◌, ◌<◌, ℕ, true, get_or}
use Rattle.pm_value.specs.Plain.{null}
use Rattle.pm_value.specs.Kinds.{is_allowed}
use Rattle.pm_value.specs.Views.{plains}
use Rattle.pm_schema.specs.Attrs.{attrs_of, no_attr}
use Rattle.pm_replace.proofs.known.kinds_fit.Given as goal

abbrev pub invariant-loop-i : goal.invariant-loop-i
invariant-loop-i l = (j : ℕ) → j < l.i → is_allowed (get_or (attrs_of l.schema.spec l.kind) j no_attr).validate (get_or (plains l.values) j null) ≡ true
