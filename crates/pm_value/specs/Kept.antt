-- Values that JSON gives back.
use Rattle.std.specs.Prelude.{ℕ, ◌<◌, ◌^◌, pos, negsuc, List, [], ◌∷◌, map}
use Rattle.std.specs.Ordering.{nat_cmp}
use Rattle.std.specs.Cmp.Lexicographic.{slice_cmp}
use Rattle.std.specs.List.Sorted.{IsStrictlySortedBy}
use Rattle.pm_value.specs.Plain.{Plain, null, truth, int, text, items, fields, Plains, none, one}

-- names in strict byte order
abbrev pub InOrder : List (List ℕ) → Type 0
InOrder ns = IsStrictlySortedBy (slice_cmp nat_cmp) ns

-- pairs whose names stand in strict byte order
abbrev pub AreSorted : List (List ℕ × Plain) → Type 0
AreSorted fs = InOrder (map (λ f. f.0) fs)

-- one value for each name
abbrev pub HasEach : List (List ℕ) → Plains → Type 0
HasEach [] none = Unit {0}
HasEach [] (one v vs) = ⊥
HasEach (n ∷ ns) none = ⊥
HasEach (n ∷ ns) (one v vs) = HasEach ns vs

-- no whole number is above the greatest of i64, and the names of each object stand in strict byte order
abbrev mutual
  pub IsKept : Plain → Type 0
  IsKept null = Unit {0}
  IsKept (truth b) = Unit {0}
  IsKept (int (pos n)) = n < 2 ^ 63
  IsKept (int (negsuc n)) = Unit {0}
  IsKept (text bs) = Unit {0}
  IsKept (items vs) = AreKept vs
  IsKept (fields ns vs) = HasEach ns vs × InOrder ns × AreKept vs

  pub AreKept : Plains → Type 0
  AreKept none = Unit {0}
  AreKept (one v vs) = IsKept v × AreKept vs
