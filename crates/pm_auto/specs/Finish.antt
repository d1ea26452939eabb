-- Which states lead to a valid end through types that can be made.
use Rattle.std.specs.Prelude.{◌≡◌, ℕ, List, [], ◌∷◌, Bool, true, false, ◌&&◌, slice_index_or}
use Rattle.pm_auto.specs.declared.auto.Auto.{Auto}
use Rattle.pm_auto.specs.Walks.{accepted}

-- each of the types can be made
abbrev pub all_can : List Bool → List ℕ → Bool
all_can can [] = true
all_can can (k ∷ w) = slice_index_or can k false && all_can can w

-- a list of types that can be made leads from the state to a valid end
pub record Finishes (can : List Bool) (a : Auto) (s : ℕ) : Type 0 where
  pub list : List ℕ
  pub makeable : all_can can list ≡ true
  pub ends : accepted a.sets a.edges s list ≡ true
