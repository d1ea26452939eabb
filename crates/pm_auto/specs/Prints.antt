-- A number of each state, by which it is found.
use Rattle.std.specs.Prelude.{◌≡◌, ℕ, ◌+◌, ◌*◌, ◌%◌, ◌^◌, ◌<◌, List, [], ◌∷◌, length, slice_index_or}
use Rattle.pm_auto.specs.declared.sets.PlaceSet.{PlaceSet}
use Rattle.pm_auto.specs.States.{set_at}

-- the number of a list, begun with p
abbrev pub print_from : ℕ → List ℕ → ℕ
print_from p [] = p
print_from p (n ∷ ns) = print_from ((p * 31 % 2 ^ 64 + n) % 2 ^ 64) ns

-- the number of a state
abbrev pub print_of : PlaceSet → ℕ
print_of s = print_from 0 s.places

-- the numbers of the states, in order
pub record Are_prints (ss : List PlaceSet) (ns : List ℕ) : Type 0 where
  pub full : length ns ≡ length ss
  pub each : (i : ℕ) → i < length ss → slice_index_or ns i 0 ≡ print_of (set_at ss i)
