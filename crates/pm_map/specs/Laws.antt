-- Laws of maps and mappings.
use Rattle.std.specs.Prelude.{◌≡◌, ◌↔◌, ℕ, ◌≤◌, true, List, ◌++◌, take, drop}
use Rattle.pm_map.specs.declared.side.Side.{Side}
use Rattle.pm_map.specs.declared.side.Side.TheVariants.{Before}
use Rattle.pm_map.specs.declared.step_map.Span.{Span}
use Rattle.pm_map.specs.declared.mapping.Mirrored.{Mirrored}
use Rattle.pm_map.specs.Moves.{moved, kept_at, inverted_ranges, is_before}
use Rattle.pm_map.specs.Through.{through, joined, HasRoom, ArePaired}
use Rattle.pm_map.specs.Mirrors.{pushed, fronted, enclosed}
use Rattle.pm_map.specs.Fits.{FitsSizes, FitAll, first_size, last_size}
use Rattle.pm_map.specs.Stills.{MovesNothing, AreApart, IsOutside, IsStart, there_and_back}

-- The map back of the map back is the map.
abbrev pub InvertsTwice : List Span → Type 0
InvertsTwice rs = inverted_ranges (inverted_ranges rs) ≡ rs

-- By one side, no position comes to stand before one that stood at or before it.
abbrev pub KeepsOrder : List Span → Type 0
KeepsOrder rs = (p q : ℕ) (side : Side) → p ≤ q → (moved rs p side).pos ≤ (moved rs q side).pos

-- A position outside the ranges moves without a flag, and the map back brings it back without one, by any sides.
abbrev pub OutsideComesBack : List Span → Type 0
OutsideComesBack rs = (p : ℕ) (side back : Side) → IsOutside rs p
    → (moved rs p side ≡ kept_at (moved rs p side).pos) × (moved (inverted_ranges rs) (moved rs p side).pos back ≡ kept_at p)

-- A map whose ranges don't touch, and then the map back as its mirror, move nothing.
abbrev pub PairMovesNothing : List Span → Type 0
PairMovesNothing rs = AreApart rs 0 → MovesNothing (there_and_back rs)

-- Over such a pair `after` holds by `Before` exactly at the start of a range that one of the two maps takes out.
abbrev pub PairAfter : List Span → Type 0
PairAfter rs = AreApart rs 0 → (p : ℕ) → ((through (there_and_back rs) p Before).after ≡ true) ↔ IsStart rs p

-- Where a mapping moves nothing, neither does it with such a map at the front and the map back as its mirror after.
abbrev pub StretchMovesNothing : List Mirrored → List Span → Type 0
StretchMovesNothing ms rs = MovesNothing ms → AreApart rs 0 → MovesNothing (enclosed ms rs (inverted_ranges rs))

-- Two mappings that move nothing move nothing one after another.
abbrev pub BothMoveNothing : List Mirrored → List Mirrored → Type 0
BothMoveNothing ms ns = MovesNothing ms → MovesNothing ns → MovesNothing (ms ++ ns)

-- Over two mappings one after another a position goes over the first and then over the second, and the flags are joined.
abbrev pub GoesOn : List Mirrored → List Mirrored → Type 0
GoesOn ms ns = (p : ℕ) (side : Side)
    → through (ms ++ ns) p side ≡ joined (through ms p side) (through ns (through ms p side).pos side)

-- An unpaired map after moves what comes out of the mapping.
abbrev pub MovesBehind : List Mirrored → List Span → Type 0
MovesBehind ms map = (p : ℕ) (side : Side)
    → through (pushed ms map) p side ≡ joined (through ms p side) (moved map (through ms p side).pos side)

-- An unpaired map at the front moves what goes into the mapping.
abbrev pub MovesInFront : List Mirrored → List Span → Type 0
MovesInFront ms map = (p : ℕ) (side : Side)
    → through (fronted ms map) p side ≡ joined (moved map p side) (through ms (moved map p side).pos side)

-- Where no pair of the first maps reaches after them, what is left when they are dropped moves what comes out of them.
abbrev pub DropsFront : List Mirrored → ℕ → Type 0
DropsFront ms count = ArePaired (take count ms) → (p : ℕ) (side : Side)
    → through ms p side ≡ joined (through (take count ms) p side) (through (drop count ms) (through (take count ms) p side).pos side)

-- Where a map fits two sizes, it leads positions within the first to positions within the second, and the map back fits
-- them the other way round.
abbrev pub FitsBothWays : List Span → Type 0
FitsBothWays rs = (n k : ℕ) → FitsSizes rs n k
    → ((p : ℕ) (side : Side) → p ≤ n → (moved rs p side).pos ≤ k) × FitsSizes (inverted_ranges rs) k n

-- A mapping that fits a list of sizes has room for each position within the first size, and leads it to one within the last.
abbrev pub FitsHasRoom : List Mirrored → Type 0
FitsHasRoom ms = (sizes : List ℕ) (p : ℕ) (side : Side) → FitAll ms sizes → p ≤ first_size sizes
    → HasRoom ms 0 (is_before side) (kept_at p) × ((through ms p side).pos ≤ last_size sizes)
