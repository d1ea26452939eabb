-- The states that were found, as bits.
use Rattle.std.specs.Prelude.{◌≡◌, ℕ, ◌<◌, List, [], ◌∷◌, length, ◌⊎◌}
use Rattle.pm_auto.specs.declared.places.Row.{Row}
use Rattle.pm_auto.specs.declared.sets.PlaceSet.{PlaceSet}
use Rattle.pm_auto.specs.declared.sets.BitSet.{BitSet}
use Rattle.pm_auto.specs.declared.known.Known.{Known}
use Rattle.pm_auto.specs.States.{set_at}
use Rattle.pm_auto.specs.Bits.{as_set}

-- each of these is a state that was found
abbrev pub All_known : List Row → List PlaceSet → List Known → Type 0
All_known rs ss [] = Unit {0}
All_known rs ss (k ∷ ks) = ((k.state < length ss) × (as_set rs k.set ≡ set_at ss k.state)) × All_known rs ss ks

-- one of them has this set, and is the state of this number
abbrev pub Recalls : BitSet → ℕ → List Known → Type 0
Recalls s t [] = ⊥
Recalls s t (k ∷ ks) = ((k.set ≡ s) × (k.state ≡ t)) ⊎ Recalls s t ks
