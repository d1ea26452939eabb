-- Sets of numbers as bits of words.
use Rattle.std.specs.Prelude.{◌≡◌, ℕ, suc, ◌+◌, ◌<◌, ◌/◌, List, [], ◌∷◌, cond, length}
use Rattle.pm_auto.specs.declared.places.Row.{Row}
use Rattle.pm_auto.specs.declared.sets.PlaceSet.{PlaceSet}
use Rattle.pm_auto.specs.declared.sets.BitSet.{BitSet}
use Rattle.pm_auto.specs.Members.{is_in}
use Rattle.pm_auto.specs.States.{has}

-- of the numbers below n, exactly those of the list are in the set
pub record Holds (n : ℕ) (ws ns : List ℕ) : Type 0 where
  pub room : length ws ≡ n / 64 + 1
  pub same : (j : ℕ) → j < n → is_in ws j ≡ has j ns

-- the numbers from n on that are in the set, of as many as there are rows
abbrev pub picked : List ℕ → ℕ → List Row → List ℕ
picked ws n [] = []
picked ws n (r ∷ rs) = cond (is_in ws n) (n ∷ picked ws (suc n) rs) (picked ws (suc n) rs)

-- the state that a set of bits stands for
abbrev pub as_set : List Row → BitSet → PlaceSet
as_set rs b = record { places = picked b.words 0 rs; ends = b.ends }
