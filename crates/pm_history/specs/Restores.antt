-- What an undo over the items of a history is, and what it restores.
use Rattle.std.specs.Prelude.{◌≡◌, ℕ, List, Some}
use Rattle.std.specs.List.{AllByRecursion as Each}
use Rattle.pm_change.specs.declared.name.Name.{Name}
use Rattle.pm_change.specs.Changes.{Meaning}
use Rattle.pm_history.specs.declared.item.Item.{Item}
use Rattle.pm_history.specs.declared.undoing.Undone.{Undone}
use Rattle.pm_history.specs.Timelines.{Step, items_from}
use Rattle.pm_history.specs.Tidy.{NoRangeUndoes, IsTidy}
use Rattle.pm_history.specs.Unchanged.{NothingSince}
use Rattle.pm_history.specs.Remembers.{Remembers}
use Rattle.pm_history.specs.Undos.{undo_event}

module _ {Rules Doc Reason C : Type 0} (m : Meaning Rules Doc Reason C) (rules : Rules) where
  -- Of every timeline that the items remember, it is what undoing the event over the whole timeline makes.
  abbrev pub IsOfWhole : ℕ → List Name → List (Item C) → Doc → ℕ → Undone Doc C → Type 0
  IsOfWhole client names items doc serial w =
      (first : Doc) (steps : List (Step C)) → Remembers m rules names first steps items → w ≡ undo_event m rules client names (items_from m rules first steps) doc serial

  -- Of every timeline that the items remember, whose names are in order, and in which no step with a range undoes a step of
  -- the event: where nothing has changed since the event, it leads to the earlier document.
  abbrev pub RestoresAll : List Name → List (Item C) → Doc → Undone Doc C → Type 0
  RestoresAll names items doc w =
      (first : Doc) (steps : List (Step C)) (before : Doc) → m.is_good rules first → Remembers m rules names first steps items
      → IsTidy (items_from m rules first steps) names → Each (λ n. NoRangeUndoes (Some n) (items_from m rules first steps)) names
      → NothingSince m rules names first steps before doc → w.doc ≡ before
