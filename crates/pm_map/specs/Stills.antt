-- Mappings that move nothing, and what keeps a map and the map back from moving anything.
use Rattle.std.specs.Prelude.{◌≡◌, ℕ, ◌+◌, ◌≤◌, ◌<◌, ◌⊎◌, false, List, [], ◌∷◌, None}
use Rattle.pm_map.specs.declared.side.Side.TheVariants.{Before, After}
use Rattle.pm_map.specs.declared.step_map.Span.{Span}
use Rattle.pm_map.specs.declared.mapping.Mirrored.{Mirrored}
use Rattle.pm_map.specs.Moves.{kept_at, inverted_ranges}
use Rattle.pm_map.specs.Through.{through}
use Rattle.pm_map.specs.Mirrors.{entry, gap_for}

-- A mapping moves nothing where it leaves every position as it is by both sides, with no flag by `After`, and with no flag
-- but `after` by `Before`.
pub record MovesNothing (ms : List Mirrored) : Type 0 where
  pub ahead : (p : ℕ) → through ms p After ≡ kept_at p
  pub back : (p : ℕ) → (through ms p Before).pos ≡ p
  pub back_deleted : (p : ℕ) → (through ms p Before).deleted ≡ false
  pub back_across : (p : ℕ) → (through ms p Before).across ≡ false

-- The ranges are in order from `from` on, and no two of them touch.
abbrev pub AreApart : List Span → ℕ → Type 0
AreApart [] from = Unit {0}
AreApart (r ∷ rs) from = (from ≤ r.start) × AreApart rs (r.start + r.old_size + 1)

-- The position is neither within a range nor at one of its ends.
abbrev pub IsOutside : List Span → ℕ → Type 0
IsOutside [] p = Unit {0}
IsOutside (r ∷ rs) p = ((p < r.start) ⊎ (r.start + r.old_size < p)) × IsOutside rs p

-- A range of the map, or the range that the map back has for it, takes something out, and the range starts at the position.
abbrev pub IsStart : List Span → ℕ → Type 0
IsStart [] p = ⊥
IsStart (r ∷ rs) p = ((r.start ≡ p) × (0 < r.old_size + r.new_size)) ⊎ IsStart rs p

-- a map, and after it the map back as its mirror
abbrev pub there_and_back : List Span → List Mirrored
there_and_back rs = entry rs (gap_for rs 0) ∷ entry (inverted_ranges rs) None ∷ []
