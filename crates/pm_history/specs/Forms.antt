-- How an item is held, and what is seen of it.
use Rattle.std.specs.Prelude.{◌≡◌, ◌≢◌, ℕ, ◌≤◌, ◌&&◌, List, [], ◌∷◌, None, IfSome}
use Rattle.std.specs.Option.{is_some}
use Rattle.pm_map.specs.declared.step_map.Span.{Span}
use Rattle.pm_map.specs.Through.{range_at}
use Rattle.pm_history.specs.declared.form.Form.{Form}
use Rattle.pm_history.specs.declared.form.Form.TheVariants.{Still, Ranged, Whole}
use Rattle.pm_history.specs.Fillings.{puts_in}
use Rattle.pm_history.specs.Kept.{Kept}

-- the first of these ranges does not start before this place
abbrev pub StartsFrom : ℕ → List Span → Type 0
StartsFrom still ranges = IfSome (range_at ranges 0) (λ r. still ≤ r.start)

-- where the old size is not the one that says nothing, these ranges are the one with these numbers
abbrev pub IsShort : ℕ → ℕ → ℕ → List Span → Type 0
IsShort start old_size new_size ranges = old_size ≢ 255 → ranges ≡ record { start = start; old_size = old_size; new_size = new_size } ∷ []

module _ {C : Type 0} where
  -- another's step with these ranges
  abbrev pub of_other : List Span → Kept C
  of_other ranges = record { name = None; map = ranges; inverse = []; undoes = None }

  abbrev pub seen : Form C → Kept C
  seen Still = of_other []
  seen (Ranged start old_size new_size) = of_other (record { start = start; old_size = old_size; new_size = new_size } ∷ [])
  seen (Whole brings_back old_size new_size start w) = record { name = w.value.name; map = w.value.map; inverse = w.value.inverse; undoes = w.value.undoes }

  -- what is held in place of a step is so
  abbrev pub Holds : Form C → Type 0
  Holds Still = Unit {0}
  Holds (Ranged start old_size new_size) = Unit {0}
  Holds (Whole brings_back old_size new_size start w) = (brings_back ≡ (is_some w.value.undoes && puts_in w.value.map)) × StartsFrom start w.value.map × IsShort start old_size new_size w.value.map
