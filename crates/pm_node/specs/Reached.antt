-- The states that an automaton reaches, and where a type leads from all of them.
use Rattle.std.specs.Prelude.{◌≡◌, ℕ, ◌<◌, true, Option, Some, List, ◌∷◌, ◌++◌, length, get_or}
use Rattle.pm_auto.specs.declared.sets.PlaceSet.{PlaceSet}
use Rattle.pm_auto.specs.declared.auto.Edge.{Edge}
use Rattle.pm_auto.specs.Walks.{target, edges_at, accepted}

-- one of these states
pub record IsAmong (xs : List ℕ) (t : ℕ) : Type 0 where
  pub at : ℕ
  pub within : at < length xs
  pub is : get_or xs at 0 ≡ t

-- each is below n
abbrev pub AreBelow : ℕ → List ℕ → Type 0
AreBelow n xs = (j : ℕ) → j < length xs → get_or xs j 0 < n

-- the states ys are xs, and maybe others after them
abbrev pub Continue : List ℕ → List ℕ → Type 0
Continue xs ys = (j : ℕ) → j < length xs → (j < length ys) × (get_or ys j 0 ≡ get_or xs j 0)

-- each edge of the state leads to one of these
abbrev pub LeadInto : List (List Edge) → ℕ → List ℕ → Type 0
LeadInto edges s xs = (k t : ℕ) → target k (edges_at edges s) ≡ Some t → IsAmong xs t

-- where the type leads on from one of these states, it leads to r
abbrev pub LeadTo : List (List Edge) → ℕ → List ℕ → ℕ → Type 0
LeadTo edges k xs r = (j t : ℕ) → j < length xs → target k (edges_at edges (get_or xs j 0)) ≡ Some t → t ≡ r

-- after types that may stand first, of which the last is k, only the state r may be
abbrev pub IsOnly : List PlaceSet → List (List Edge) → ℕ → ℕ → Type 0
IsOnly sets edges k r = (a v w : List ℕ) → accepted sets edges 0 (a ++ k ∷ v) ≡ true → accepted sets edges 0 (a ++ k ∷ w) ≡ accepted sets edges r w

-- after these types, where they may stand first, is the state s
abbrev pub IsFront : List PlaceSet → List (List Edge) → List ℕ → ℕ → Type 0
IsFront sets edges front s = (v w : List ℕ) → accepted sets edges 0 (front ++ v) ≡ true → accepted sets edges 0 (front ++ w) ≡ accepted sets edges s w
