-- Walks along the edges of an automaton.
use Rattle.std.specs.Prelude.{ℕ, List, [], ◌∷◌, Bool, false, cond, eqb, Option, Some, None, slice_index_or}
use Rattle.pm_auto.specs.declared.sets.PlaceSet.{PlaceSet}
use Rattle.pm_auto.specs.declared.auto.Edge.{Edge}

-- where the edge of the type leads
abbrev pub target : ℕ → List Edge → Option ℕ
target k [] = None
target k (e ∷ es) = cond (eqb e.kind k) (Some e.to) (target k es)

-- the edges of a state
abbrev pub edges_at : List (List Edge) → ℕ → List Edge
edges_at ess s = slice_index_or ess s []

abbrev pub ends_at : List PlaceSet → ℕ → Bool
ends_at ss s = (slice_index_or ss s record { places = []; ends = false }).ends

-- what holds where an edge leads, false where there is none
abbrev pub via : (ℕ → Bool) → Option ℕ → Bool
via f None = false
via f (Some t) = f t

-- the list leads from the state to a valid end
abbrev pub accepted : List PlaceSet → List (List Edge) → ℕ → List ℕ → Bool
accepted ss ess s [] = ends_at ss s
accepted ss ess s (k ∷ w) = via (λ t. accepted ss ess t w) (target k (edges_at ess s))
