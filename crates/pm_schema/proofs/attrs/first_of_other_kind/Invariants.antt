use Rattle.std.proofs.Common.{◌≡◌, ◌<◌, ℕ, false, get_or}
use Rattle.pm_schema.specs.Attrs.{no_attr, pairs_of, is_other_kind}
use Rattle.pm_schema.proofs.attrs.first_of_other_kind.Given as goal

abbrev pub invariant-loop-index : goal.invariant-loop-index
invariant-loop-index l = (j : ℕ) → j < l.index → is_other_kind (pairs_of l.given) (get_or l.attrs j no_attr) ≡ false
