-- Laws of the authors over the map of one step.
use Rattle.std.specs.Prelude.{◌≡◌, ℕ, ◌+◌, ◌≤◌, ◌<◌, ◌⊎◌, List, [], ◌∷◌, length, get_or}
use Rattle.pm_map.specs.declared.side.Side.TheVariants.{After}
use Rattle.pm_map.specs.declared.step_map.Span.{Span}
use Rattle.pm_map.specs.Moves.{moved}
use Rattle.pm_map.specs.Through.{result_start, new_at}
use Rattle.pm_map.specs.Fits.{FitsSizes}
use Rattle.pm_map.specs.Stills.{AreApart}
use Rattle.pm_authors.specs.Runs.{Author}
use Rattle.pm_authors.specs.Stepping.{over}

-- No range takes out the token after the position.
abbrev pub Stays : List Span → ℕ → Type 0
Stays [] p = Unit {0}
Stays (r ∷ rs) p = ((p < r.start) ⊎ (r.start + r.old_size ≤ p)) × Stays rs p

-- Over a map whose ranges do not touch, a token that stays keeps its author, at the place where the position before it goes.
abbrev pub KeepsAuthors : List Span → Type 0
KeepsAuthors rs = (a none : Author) (xs : List Author) (p : ℕ) → AreApart rs 0 → Stays rs p → p < length xs
    → get_or (over a rs 0 xs) (moved rs p After).pos none ≡ get_or xs p none

-- Each token that a range puts in is the step's, where the ranges lie within the document.
abbrev pub PutsAuthors : List Span → Type 0
PutsAuthors rs = (a none : Author) (xs : List Author) (size i offset : ℕ) → FitsSizes rs (length xs) size → i < length rs
    → offset < new_at rs i → get_or (over a rs 0 xs) (result_start rs i + offset) none ≡ a
