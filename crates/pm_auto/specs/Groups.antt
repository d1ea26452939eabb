-- The places of a state by their types.
use Rattle.std.specs.Prelude.{◌≡◌, ℕ, zero, suc, ◌<◌, List, [], ◌∷◌, cond, eqb, length, slice_index_or}
use Rattle.pm_auto.specs.declared.places.Row.{Row}
use Rattle.pm_auto.specs.declared.groups.Groups.{Groups}
use Rattle.pm_auto.specs.Runs.{look}
use Rattle.pm_auto.specs.States.{Below, kinds, once}

-- the number of the first row of the type
abbrev pub place_of : ℕ → List Row → ℕ
place_of k [] = zero
place_of k (r ∷ rs) = cond (eqb r.kind k) zero (suc (place_of k rs))

-- the first row that has the type of the row
abbrev pub twin_of : List Row → ℕ → ℕ
twin_of rs p = place_of (look rs p).kind rs

-- for each row the first row that has its type
pub record Are_twins (rs : List Row) (ts : List ℕ) : Type 0 where
  pub full : length ts ≡ length rs
  pub twin : (p : ℕ) → p < length rs → slice_index_or ts p 0 ≡ twin_of rs p

-- the places of the type
abbrev pub of_kind : List Row → ℕ → List ℕ → List ℕ
of_kind rs k [] = []
of_kind rs k (n ∷ ns) = cond (eqb (look rs n).kind k) (n ∷ of_kind rs k ns) (of_kind rs k ns)

-- the first place of each type, and the places of each
pub record Are_groups (rs : List Row) (ns : List ℕ) (g : Groups) : Type 0 where
  pub below : Below (length rs) g.heads
  pub heads : kinds rs g.heads ≡ once [] (kinds rs ns)
  pub full : length g.lists ≡ length rs
  pub lists : (p : ℕ) → p < length rs → slice_index_or g.lists (twin_of rs p) [] ≡ of_kind rs (look rs p).kind ns
