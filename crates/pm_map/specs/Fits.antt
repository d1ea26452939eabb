-- Maps and mappings that fit the sizes of the documents between which they lead. Sizes are counted in tokens.
use Rattle.std.specs.Prelude.{◌≡◌, ℕ, ◌+◌, ◌≤◌, ◌<◌, ◌^◌, List, [], ◌∷◌}
use Rattle.pm_map.specs.declared.step_map.Span.{Span}
use Rattle.pm_map.specs.declared.mapping.Mirrored.{Mirrored}

-- The ranges are in order from `from` on and end within the first size, and the second size is the first with the ranges'
-- differences. What the ranges put in is added to `before`, and what they take out to `after`.
abbrev pub FitsFrom : List Span → ℕ → ℕ → ℕ → ℕ → Type 0
FitsFrom [] from bound before after = (from ≤ bound) × (before ≡ after)
FitsFrom (r ∷ rs) from bound before after =
    (from ≤ r.start) × FitsFrom rs (r.start + r.old_size) bound (before + r.new_size) (after + r.old_size)

-- A map fits two sizes where its ranges lie within the first and the second is the first with the ranges' differences.
abbrev pub FitsSizes : List Span → ℕ → ℕ → Type 0
FitsSizes rs before after = FitsFrom rs 0 before before after

-- A mapping fits a list of sizes below 2^32, one more than it has maps, where each map fits the two sizes at its place.
abbrev pub FitAll : List Mirrored → List ℕ → Type 0
FitAll [] [] = ⊥
FitAll [] (n ∷ []) = n < 2 ^ 32
FitAll [] (n ∷ k ∷ ns) = ⊥
FitAll (e ∷ es) [] = ⊥
FitAll (e ∷ es) (n ∷ []) = ⊥
FitAll (e ∷ es) (n ∷ k ∷ ns) = (n < 2 ^ 32) × FitsSizes e.map n k × FitAll es (k ∷ ns)

abbrev pub first_size : List ℕ → ℕ
first_size [] = 0
first_size (n ∷ ns) = n

abbrev pub last_size : List ℕ → ℕ
last_size [] = 0
last_size (n ∷ []) = n
last_size (n ∷ k ∷ ns) = last_size (k ∷ ns)

-- A mapping leads from a document of one size to one of another: it fits some list of sizes that begins and ends so.
abbrev pub FitBetween : List Mirrored → ℕ → ℕ → Type 0
FitBetween [] n k = (n < 2 ^ 32) × (n ≡ k)
FitBetween (e ∷ es) n k = (mid : ℕ) × ((n < 2 ^ 32) × FitsSizes e.map n mid × FitBetween es mid k)

-- how much a range puts in
abbrev pub new_size_of : Span → ℕ
new_size_of s = s.new_size
