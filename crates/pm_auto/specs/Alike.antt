-- Tables of places that go on with the same places, whatever the order in which they list them.
use Rattle.std.specs.Prelude.{◌≡◌, ℕ, List, [], ◌∷◌}
use Rattle.pm_auto.specs.declared.places.Row.{Row}
use Rattle.pm_auto.specs.declared.places.Part.{Part}
use Rattle.pm_auto.specs.States.{has}

-- the same numbers are in both lists
abbrev pub Same_numbers : List ℕ → List ℕ → Type 0
Same_numbers xs ys = (j : ℕ) → has j xs ≡ has j ys

-- two rows of one type go on with the same places and end alike
pub record Alike_row (r s : Row) : Type 0 where
  pub kind : r.kind ≡ s.kind
  pub follow : Same_numbers r.follow s.follow
  pub ends : r.ends ≡ s.ends

-- two tables are alike, row for row
abbrev pub Alike_rows : List Row → List Row → Type 0
Alike_rows [] [] = Unit {0}
Alike_rows [] (s ∷ ss) = ⊥
Alike_rows (r ∷ rs) [] = ⊥
Alike_rows (r ∷ rs) (s ∷ ss) = Alike_row r s × Alike_rows rs ss

-- two parts have tables that are alike, begin with the same places in the same order, and both may be empty or neither
pub record Alike (p q : Part) : Type 0 where
  pub rows : Alike_rows p.rows q.rows
  pub first : p.first ≡ q.first
  pub may_be_empty : p.may_be_empty ≡ q.may_be_empty
