use Rattle.std.proofs.Common.{◌≡◌, ◌<◌, ℕ, false, take, get_or}
use Rattle.pm_value.specs.Views.{plains}
use Rattle.pm_schema.specs.Attrs.{no_attr, pairs_of, is_missing, AreValues}
use Rattle.pm_schema.proofs.attrs.values_of.Given as goal

abbrev pub invariant-loop-attr : goal.invariant-loop-attr
invariant-loop-attr l =
    AreValues (take l.attr l.attrs) (pairs_of l.given) (plains l.values.items)
    × ((j : ℕ) → j < l.attr → is_missing (pairs_of l.given) (get_or l.attrs j no_attr) ≡ false)
