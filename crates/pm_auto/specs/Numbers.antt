-- The number of each place, and the row of the table that it has.
use Rattle.std.specs.Prelude.{ℕ, ◌+◌, List, [], ◌∷◌, ◌++◌, map}
use Rattle.std.proofs.Common.{inl, inr}
use Rattle.pm_auto.specs.declared.places.Row.{Row}
use Rattle.pm_auto.specs.Core.{Core, Never, Empty, One, Alt, Cat, Loop, Place, kind, follow, ends}
use Rattle.pm_auto.specs.Table.{width}

-- all places from the left
abbrev pub places : (e : Core) → List (Place e)
places Never = []
places Empty = []
places (One k) = tt ∷ []
places (Alt a b) = map inl (places a) ++ map inr (places b)
places (Cat a b) = map inl (places a) ++ map inr (places b)
places (Loop a) = places a

-- the number of a place, where the first has the number n
abbrev pub number : ℕ → (e : Core) → Place e → ℕ
number n Never p = absurd p
number n Empty p = absurd p
number n (One k) p = n
number n (Alt a b) (inl p) = number n a p
number n (Alt a b) (inr p) = number (n + width a) b p
number n (Cat a b) (inl p) = number n a p
number n (Cat a b) (inr p) = number (n + width a) b p
number n (Loop a) p = number n a p

-- the row of a place
abbrev pub row : ℕ → (e : Core) → Place e → Row
row n e p = record { kind = kind e p; follow = map (number n e) (follow e p); ends = ends e p }
