-- How near the nodes of a graph are to a goal.
use Rattle.std.specs.Prelude.{◌≡◌, ℕ, zero, suc, ◌<◌, List, [], ◌∷◌, length, Bool, true, false, ◌||◌, cond, slice_index_or}
use Rattle.pm_auto.specs.declared.auto.Edge.{Edge}
use Rattle.pm_auto.specs.Graph.{Reaches}
use Rattle.pm_auto.specs.Walks.{edges_at}

-- what was marked is marked still
abbrev pub Keeps : List Bool → List Bool → Type 0
Keeps old new = (s : ℕ) → slice_index_or old s false ≡ true → slice_index_or new s false ≡ true

-- from each marked node some list leads to a goal
abbrev pub All_reach : List (List Edge) → List Bool → List Bool → Type 0
All_reach links goals marks = (s : ℕ) → s < length links → slice_index_or marks s false ≡ true → Reaches links goals s

-- one of the links leads to a marked node
abbrev pub one_to : List Bool → List Edge → Bool
one_to near [] = false
one_to near (e ∷ es) = slice_index_or near e.to false || one_to near es

-- the marked nodes, and those with a link to one
abbrev pub wider : List Bool → List (List Edge) → List Bool → List Bool
wider near [] bs = []
wider near (es ∷ ess) [] = one_to near es ∷ wider near ess []
wider near (es ∷ ess) (b ∷ bs) = (b || one_to near es) ∷ wider near ess bs

-- the nodes with a list of at most n types to a goal
abbrev pub near : List (List Edge) → List Bool → ℕ → List Bool
near links goals zero = goals
near links goals (suc n) = wider (near links goals n) links (near links goals n)

-- the first of the links that leads to a marked node
abbrev pub first_to : List Bool → List Edge → Edge
first_to near [] = record { kind = 0; to = 0 }
first_to near (e ∷ es) = cond (slice_index_or near e.to false) e (first_to near es)

-- the first link to a node that is one step nearer, and so on
abbrev pub nearer : List (List Edge) → List Bool → ℕ → ℕ → List ℕ
nearer links goals zero s = []
nearer links goals (suc n) s =
    (first_to (near links goals n) (edges_at links s)).kind ∷ nearer links goals n (first_to (near links goals n) (edges_at links s)).to

-- the same along rounds of marks, the last of them first
abbrev pub trail : List (List Edge) → List (List Bool) → ℕ → ℕ → List ℕ
trail links rounds zero s = []
trail links rounds (suc n) s =
    (first_to (slice_index_or rounds n []) (edges_at links s)).kind ∷ trail links rounds n (first_to (slice_index_or rounds n []) (edges_at links s)).to
