-- Whether a rebase drops a step.
use Rattle.std.specs.Prelude.{ℕ, ◌||◌, not, Bool, false, List, [], ◌∷◌, ◌++◌, take, drop, Option, Some, None}
use Rattle.pm_change.specs.declared.name.Name.{Name}
use Rattle.pm_map.specs.declared.step_map.Span.{Span}
use Rattle.pm_history.specs.declared.item.Item.{Item}
use Rattle.pm_history.specs.declared.branches.Branches.{Branches}
use Rattle.pm_history.specs.Histories.{holds, foreign_items, without_dropped}

module _ {C : Type 0} where
  -- an own step that is not kept
  abbrev pub is_lost : Option Name → List (Item C) → Bool
  is_lost None kept = false
  is_lost (Some n) kept = not (holds n kept)

  -- whether one of the own steps gone is not kept
  abbrev pub any_dropped : List (Item C) → List (Item C) → Bool
  any_dropped [] kept = false
  any_dropped (i ∷ is) kept = is_lost i.name kept || any_dropped is kept

  -- other items in place of those from this place on
  abbrev pub replaced : Branches C → ℕ → List (List Span) → List (Item C) → Branches C
  replaced h at foreign kept = record h { items = take at h.items ++ (foreign_items foreign ++ kept) }

  -- The same, and the steps from this place on that are not kept leave their events.
  abbrev pub left_by : Branches C → ℕ → List (List Span) → List (Item C) → Branches C
  left_by h at foreign kept = record (replaced h at foreign kept) {
    undo = without_dropped (drop at h.items) kept h.undo;
    redo = without_dropped (drop at h.items) kept h.redo;
  }
