-- Lists of types along the links of a graph, and the shortest that leads to a goal.
use Rattle.std.specs.Prelude.{◌≡◌, ℕ, suc, ◌<◌, List, [], ◌∷◌, length, Bool, true, false, cond, eqb, Option, Some, None, ◌⊎◌, slice_index_or}
use Rattle.pm_auto.specs.declared.auto.Edge.{Edge}
use Rattle.pm_auto.specs.States.{has, edge_kinds}
use Rattle.pm_auto.specs.Walks.{target, edges_at, via}

-- the list leads along links from the node to a goal
abbrev pub leads : List (List Edge) → List Bool → ℕ → List ℕ → Bool
leads links goals s [] = slice_index_or goals s false
leads links goals s (k ∷ w) = via (λ t. leads links goals t w) (target k (edges_at links s))

-- some list leads from the node to a goal
abbrev pub Reaches : List (List Edge) → List Bool → ℕ → Type 0
Reaches links goals s = (w : List ℕ) × (leads links goals s w ≡ true)

-- how many links stand before the first of the type
abbrev pub rank : ℕ → List Edge → ℕ
rank k [] = 0
rank k (e ∷ es) = cond (eqb e.kind k) 0 (suc (rank k es))

-- at the first difference, the link of the first list stands before that of the second
abbrev pub Before : List (List Edge) → ℕ → List ℕ → List ℕ → Type 0
Before links s [] v = ⊥
Before links s (j ∷ u) [] = ⊥
Before links s (j ∷ u) (k ∷ v) =
    (rank j (edges_at links s) < rank k (edges_at links s))
    ⊎ ((j ≡ k) × ((t : ℕ) × (target j (edges_at links s) ≡ Some t) × Before links t u v))

-- w leads to a goal, and any other list that does is longer, or as long and later at the first difference
pub record Shortest (links : List (List Edge)) (goals : List Bool) (s : ℕ) (w : List ℕ) : Type 0 where
  pub leads_on : leads links goals s w ≡ true
  pub least : (v : List ℕ) → leads links goals s v ≡ true → (w ≡ v) ⊎ ((length w < length v) ⊎ ((length w ≡ length v) × Before links s w v))

-- the shortest list, or None where there is none
abbrev pub Is_shortest : List (List Edge) → List Bool → ℕ → Option (List ℕ) → Type 0
Is_shortest links goals s None = (w : List ℕ) → leads links goals s w ≡ false
Is_shortest links goals s (Some w) = Shortest links goals s w

-- each type once
abbrev pub Parted : List Edge → Type 0
Parted [] = Unit {0}
Parted (e ∷ es) = (has e.kind (edge_kinds es) ≡ false) × Parted es

-- each link leads to one of n nodes
abbrev pub Inside : ℕ → List Edge → Type 0
Inside n [] = Unit {0}
Inside n (e ∷ es) = (e.to < n) × Inside n es

-- a graph with n nodes, or the links of some of its nodes
abbrev pub Is_graph : ℕ → List (List Edge) → Type 0
Is_graph n [] = Unit {0}
Is_graph n (es ∷ ess) = (Parted es × Inside n es) × Is_graph n ess
