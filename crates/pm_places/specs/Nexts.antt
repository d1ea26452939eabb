-- What may come next after a list of types, by place words.
use Rattle.std.specs.Prelude.{◌≡◌, ℕ, ◌≤◌, List, [], ◌∷◌, ◌++◌, Option, Some, true, All, Contains, option_and_then, ◌↔◌, ◌⊎◌}
use Rattle.std.specs.List.Sorted.{IsStrictlyIncreasing}
use Rattle.pm_auto.specs.declared.expr.Expr.{Expr}
use Rattle.pm_auto.specs.declared.sets.PlaceSet.{PlaceSet}
use Rattle.pm_auto.specs.declared.auto.Edge.{Edge}
use Rattle.pm_auto.specs.Lang.{In}
use Rattle.pm_auto.specs.Walks.{target, edges_at}
use Rattle.pm_places.specs.Words.{IsPlaceWord, spelled, type_at}

-- some place word begins with places that spell w, and then these places
pub record BeginsWith (e : Expr) (w next : List ℕ) : Type 0 where
  pub places : List ℕ
  pub spell : spelled e places ≡ w
  pub rest : List ℕ
  pub word : IsPlaceWord e (places ++ next ++ rest)

-- w is empty, or some place word begins with places that spell it
abbrev pub IsBegun : Expr → List ℕ → Type 0
IsBegun e w = (w ≡ []) ⊎ BeginsWith e w []

-- some place word begins with places that spell w and then the place q
abbrev pub ComesNext : Expr → List ℕ → ℕ → Type 0
ComesNext e w q = BeginsWith e w (q ∷ [])

-- the state that the list leads to along edges, None where an edge is missing
abbrev pub led_to : List (List Edge) → ℕ → List ℕ → Option ℕ
led_to edges s [] = Some s
led_to edges s (k ∷ w) = option_and_then (λ t. led_to edges t w) (target k (edges_at edges s))

-- the state after w: the places that may come next, from the left, with the fact whether w is in the language
pub record IsStateAfter (e : Expr) (w : List ℕ) (s : PlaceSet) : Type 0 where
  pub next : (q : ℕ) → Contains s.places q ↔ ComesNext e w q
  pub ordered : IsStrictlyIncreasing s.places
  pub ends : (s.ends ≡ true) ↔ In e w

-- the least of the places of one type that may come next
pub record IsLeast (e : Expr) (w : List ℕ) (p : ℕ) : Type 0 where
  pub comes : ComesNext e w p
  pub least : (q : ℕ) → ComesNext e w q → type_at e q ≡ type_at e p → p ≤ q

-- the types of the places that may come next, each once, in the order of the least place of each
pub record AreTypesNext (e : Expr) (w types : List ℕ) : Type 0 where
  pub leasts : List ℕ
  pub types_of : types ≡ spelled e leasts
  pub least : All (IsLeast e w) leasts
  pub ordered : IsStrictlyIncreasing leasts
  pub every : (q : ℕ) → ComesNext e w q → Contains types (type_at e q)

-- the same places may come next after both lists, and both are in the language or both not
abbrev pub AreAlike : Expr → List ℕ → List ℕ → Type 0
AreAlike e v w = ((q : ℕ) → ComesNext e v q ↔ ComesNext e w q) × (In e v ↔ In e w)
