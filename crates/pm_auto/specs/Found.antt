-- The states that a search has found so far, the start first.
use Rattle.std.specs.Prelude.{◌≡◌, ℕ, ◌<◌, ◌≤◌, List, [], ◌∷◌, ◌++◌, length, ◌⊎◌}
use Rattle.pm_auto.specs.declared.places.Row.{Row}
use Rattle.pm_auto.specs.declared.sets.PlaceSet.{PlaceSet}
use Rattle.pm_auto.specs.declared.error.AutoError.{AutoError}
use Rattle.pm_auto.specs.declared.error.AutoError.TheVariants.{Mixed, TooWide, NoMemory}
use Rattle.pm_auto.specs.States.{Below, All_reached, Apart, Differ, set_at}

-- the places of each state are places of the table
abbrev pub All_below : ℕ → List PlaceSet → Type 0
All_below n [] = Unit {0}
All_below n (s ∷ ss) = Below n s.places × All_below n ss

-- states that were found: each can be reached, no two are the same, and they are at most a thousand
pub record Found (rs : List Row) (ss : List PlaceSet) : Type 0 where
  pub some : 0 < length ss
  pub reached : All_reached rs (set_at ss 0) ss
  pub differ : Differ ss
  pub below : All_below (length rs) ss
  pub few : length ss ≤ 1000

-- some states more at the end
abbrev pub Grows : List PlaceSet → List PlaceSet → Type 0
Grows old new = (more : List PlaceSet) × (new ≡ old ++ more)

-- the state was found before, or it is put at the end; its number is t
abbrev pub Placed : List PlaceSet → PlaceSet → ℕ → List PlaceSet → Type 0
Placed old s t new =
    ((new ≡ old) × (t < length old) × (set_at old t ≡ s))
    ⊎ ((new ≡ old ++ s ∷ []) × (t ≡ length old) × Apart s old × (length old < 1000))

-- the one cause that is said, besides running out of memory
abbrev pub Only_wide : Type 0 → AutoError → Type 0
Only_wide P Mixed = ⊥
Only_wide P TooWide = P
Only_wide P NoMemory = Unit {0}
