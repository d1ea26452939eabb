-- Which types may be put before given ones.
use Rattle.std.specs.Prelude.{ℕ, suc, List, [], ◌∷◌, map, Bool, false, ◌||◌, not, cond, slice_index_or}
use Rattle.pm_auto.specs.declared.sets.PlaceSet.{PlaceSet}
use Rattle.pm_auto.specs.declared.auto.Edge.{Edge}
use Rattle.pm_auto.specs.declared.auto.Auto.{Auto}
use Rattle.pm_auto.specs.Walks.{target, edges_at, ends_at, via}

-- the edges whose type can be made
abbrev pub kept : List Bool → List Edge → List Edge
kept can [] = []
kept can (e ∷ es) = cond (slice_index_or can e.kind false) (e ∷ kept can es) (kept can es)

abbrev pub makeable : List Bool → List (List Edge) → List (List Edge)
makeable can ess = map (kept can) ess

-- from the state these types fit one after another, and after them the content may end where that is asked
abbrev pub fits_on : List PlaceSet → List (List Edge) → Bool → ℕ → List ℕ → Bool
fits_on ss ess to_end s [] = not to_end || ends_at ss s
fits_on ss ess to_end s (k ∷ w) = via (λ t. fits_on ss ess to_end t w) (target k (edges_at ess s))

-- the same of each state from s on
abbrev pub fits_from : List PlaceSet → List (List Edge) → Bool → List ℕ → ℕ → List PlaceSet → List Bool
fits_from ss ess to_end after s [] = []
fits_from ss ess to_end after s (x ∷ xs) = fits_on ss ess to_end s after ∷ fits_from ss ess to_end after (suc s) xs

-- the states at which a list that fills may end
abbrev pub filled : Auto → Bool → List ℕ → List Bool
filled a to_end after = fits_from a.sets a.edges to_end after 0 a.sets
