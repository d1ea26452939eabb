-- Which types may stand around a type.
use Rattle.std.specs.Prelude.{◌≡◌, ℕ, List, [], ◌∷◌, ◌++◌, map, length, Bool, true, false, ◌||◌, ◌&&◌, not, cond, nat_lt, slice_index_or}
use Rattle.pm_auto.specs.declared.sets.PlaceSet.{PlaceSet}
use Rattle.pm_auto.specs.declared.auto.Edge.{Edge}
use Rattle.pm_auto.specs.declared.auto.Auto.{Auto}
use Rattle.pm_auto.specs.States.{has, edge_kinds}
use Rattle.pm_auto.specs.Walks.{edges_at, ends_at}

-- some type may stand first in both
abbrev pub Compatible : Auto → Auto → Type 0
Compatible a b = (k : ℕ) × (has k (edge_kinds (edges_at a.edges 0)) ≡ true) × (has k (edge_kinds (edges_at b.edges 0)) ≡ true)

-- the wrappers among the types of the edges, as links to the nodes of these types; where that is asked, the content must be
-- able to end after the wrapper
abbrev pub wrappers : List Bool → ℕ → Bool → List PlaceSet → List Edge → List Edge
wrappers may n to_end ss [] = []
wrappers may n to_end ss (e ∷ es) =
    cond ((nat_lt e.kind n && slice_index_or may e.kind false) && (not to_end || ends_at ss e.to)) (record { kind = e.kind; to = e.kind } ∷ wrappers may n to_end ss es) (wrappers may n to_end ss es)

-- the wrappers that may stand first in a type, which may then end
abbrev pub inner_links : List Bool → ℕ → Auto → List Edge
inner_links may n a = wrappers may n true a.sets (edges_at a.edges 0)

-- a node for each type, and after them one for the given state
abbrev pub wrap_links : Auto → ℕ → List Auto → List Bool → List (List Edge)
wrap_links a s autos may = map (inner_links may (length autos)) autos ++ wrappers may (length autos) false a.sets (edges_at a.edges s) ∷ []

-- the target may stand first in the type
abbrev pub holds_first : ℕ → Auto → Bool
holds_first target a = has target (edge_kinds (edges_at a.edges 0))

abbrev pub wrap_goals : Auto → ℕ → ℕ → List Auto → List Bool
wrap_goals a s target autos = map (holds_first target) autos ++ has target (edge_kinds (edges_at a.edges s)) ∷ []
