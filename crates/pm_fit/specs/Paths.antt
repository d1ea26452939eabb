-- The shortest list of types to a goal, as a function.
use Rattle.std.specs.Prelude.{ℕ, zero, suc, List, [], ◌∷◌, map, length, Bool, false, if◌then◌else◌, Option, Some, None, slice_index_or}
use Rattle.std.specs.Option.{option_map, option_or, option_and_then}
use Rattle.std.specs.List.{range_with_len}
use Rattle.pm_auto.specs.declared.auto.Edge.{Edge}
use Rattle.pm_auto.specs.Walks.{target, edges_at}

-- the first that is there
abbrev pub first_some : {T : Type 0} → List (Option T) → Option T
first_some [] = None
first_some (o ∷ os) = option_or o (first_some os)

-- the list that begins with the type, where its edge leads to a node from which `on` goes on
abbrev pub begun_with : ℕ → (ℕ → Option (List ℕ)) → List Edge → Option (List ℕ)
begun_with k on es = option_map (λ w. k ∷ w) (option_and_then on (target k es))

-- of the lists of n types that lead from the node s to a goal, the first by the order of edges
abbrev pub first_of_length : List (List Edge) → List Bool → ℕ → ℕ → Option (List ℕ)
first_of_length links goals zero s = if slice_index_or goals s false then Some [] else None
first_of_length links goals (suc n) s = first_some (map (λ e. begun_with e.kind (first_of_length links goals n) (edges_at links s)) (edges_at links s))

-- The shortest list that leads from the node s to a goal, and of several as short the first by the order of edges. It passes no
-- node twice, so it has fewer types than there are nodes.
abbrev pub shortest : List (List Edge) → List Bool → ℕ → Option (List ℕ)
shortest links goals s = first_some (map (λ n. first_of_length links goals n s) (range_with_len 0 (length links)))
