-- The states of an automaton: sets of places that may come next.
use Rattle.std.specs.Prelude.{◌≡◌, ℕ, suc, ◌<◌, List, [], ◌∷◌, ◌++◌, length, Bool, true, false, ◌||◌, cond, eqb, slice_index_or}
use Rattle.pm_auto.specs.declared.places.Row.{Row}
use Rattle.pm_auto.specs.declared.sets.PlaceSet.{PlaceSet}
use Rattle.pm_auto.specs.declared.auto.Edge.{Edge}
use Rattle.pm_auto.specs.Core.{Core, nullable}
use Rattle.pm_auto.specs.Table.{rows, firsts}
use Rattle.pm_auto.specs.Runs.{look, next_rows, end_rows}

-- the number is in the list
abbrev pub has : ℕ → List ℕ → Bool
has k [] = false
has k (x ∷ xs) = eqb x k || has k xs

-- the numbers that are in the list, in order, of those from n on that the rows have
abbrev pub in_order : List ℕ → ℕ → List Row → List ℕ
in_order ns n [] = []
in_order ns n (r ∷ rs) = cond (has n ns) (n ∷ in_order ns (suc n) rs) (in_order ns (suc n) rs)

-- each number is below n
abbrev pub Below : ℕ → List ℕ → Type 0
Below n [] = Unit {0}
Below n (x ∷ xs) = (x < n) × Below n xs

-- the state after a type: the places that may come after those of the type, and whether one of those may be the last
abbrev pub step : List Row → ℕ → PlaceSet → PlaceSet
step rs k s = record { places = in_order (next_rows rs k s.places) 0 rs; ends = end_rows rs k s.places }

-- the state before any type
abbrev pub start_of : Core → PlaceSet
start_of e = record { places = in_order (firsts 0 e) 0 (rows 0 e); ends = nullable e }

-- the types of the places
abbrev pub kinds : List Row → List ℕ → List ℕ
kinds rs [] = []
kinds rs (n ∷ ns) = (look rs n).kind ∷ kinds rs ns

-- the types that were not seen before, each once, where it comes first
abbrev pub once : List ℕ → List ℕ → List ℕ
once seen [] = []
once seen (k ∷ ks) = cond (has k seen) (once seen ks) (k ∷ once (seen ++ k ∷ []) ks)

-- the list leads from one state to another, each type being one of the places at hand
abbrev pub Leads_to : List Row → PlaceSet → List ℕ → PlaceSet → Type 0
Leads_to rs s [] t = s ≡ t
Leads_to rs s (k ∷ w) t = (has k (kinds rs s.places) ≡ true) × Leads_to rs (step rs k s) w t

-- each of the states can be reached
abbrev pub All_reached : List Row → PlaceSet → List PlaceSet → Type 0
All_reached rs s [] = Unit {0}
All_reached rs s (t ∷ ts) = ((w : List ℕ) × Leads_to rs s w t) × All_reached rs s ts

-- no two of the states are the same
abbrev pub Apart : PlaceSet → List PlaceSet → Type 0
Apart s [] = Unit {0}
Apart s (t ∷ ts) = (s ≡ t → ⊥) × Apart s ts

abbrev pub Differ : List PlaceSet → Type 0
Differ [] = Unit {0}
Differ (s ∷ ss) = Apart s ss × Differ ss

-- more than a thousand states can be reached
pub record Too_many (rs : List Row) (start : PlaceSet) : Type 0 where
  pub states : List PlaceSet
  pub reached : All_reached rs start states
  pub differ : Differ states
  pub many : 1000 < length states

-- the types of edges
abbrev pub edge_kinds : List Edge → List ℕ
edge_kinds [] = []
edge_kinds (e ∷ es) = e.kind ∷ edge_kinds es

-- the state of a number
abbrev pub set_at : List PlaceSet → ℕ → PlaceSet
set_at ss i = slice_index_or ss i record { places = []; ends = false }

-- each edge leads to the state after its type
abbrev pub Lead_on : List Row → List PlaceSet → PlaceSet → List Edge → Type 0
Lead_on rs ss s [] = Unit {0}
Lead_on rs ss s (e ∷ es) = ((e.to < length ss) × (set_at ss e.to ≡ step rs e.kind s)) × Lead_on rs ss s es

-- these are the edges of the state: one for each type at hand, in the order of their first places
pub record Edges_of (rs : List Row) (ss : List PlaceSet) (s : PlaceSet) (es : List Edge) : Type 0 where
  pub types : edge_kinds es ≡ once [] (kinds rs s.places)
  pub lead : Lead_on rs ss s es

-- the edges of the first states, one list for each
abbrev pub All_edges : List Row → List PlaceSet → List PlaceSet → List (List Edge) → Type 0
All_edges rs ss ts [] = Unit {0}
All_edges rs ss [] (es ∷ ess) = ⊥
All_edges rs ss (t ∷ ts) (es ∷ ess) = Edges_of rs ss t es × All_edges rs ss ts ess
