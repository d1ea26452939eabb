-- Which event an undo or a redo takes, and what it makes of the branches.
use Rattle.std.specs.Prelude.{◌≡◌, ℕ, ◌+◌, ◌<◌, ◌||◌, Bool, true, false, if◌then◌else◌, List, [], ◌∷◌, ◌++◌, length, drop, Option, Some, None}
use Rattle.pm_history.specs.declared.item.Item.{Item}
use Rattle.pm_history.specs.declared.branch.Event.{Event}
use Rattle.pm_history.specs.declared.branches.Branches.{Branches}
use Rattle.pm_history.specs.declared.turn.Turn.{Turn}
use Rattle.pm_history.specs.declared.turn.Turn.TheVariants.{Undo, Redo, UndoEvent}
use Rattle.pm_history.specs.Histories.{is_number, last_event, without_last, with_event}

-- whether the event has this number
abbrev pub has_number : ℕ → Event → Bool
has_number k e = is_number (Some k) e.number

-- whether one of these events has this number
abbrev pub any_numbered : ℕ → List Event → Bool
any_numbered k [] = false
any_numbered k (e ∷ es) = has_number k e || any_numbered k es

-- the last of these events that has this number
abbrev pub last_numbered : ℕ → List Event → Option Event
last_numbered k [] = None
last_numbered k (e ∷ es) = if any_numbered k es then last_numbered k es else (if has_number k e then Some e else None)

-- the events without that one
abbrev pub without_numbered : ℕ → List Event → List Event
without_numbered k [] = []
without_numbered k (e ∷ es) = if any_numbered k es then e ∷ without_numbered k es else (if has_number k e then es else e ∷ es)

-- the place of that one: one of the events from there on has this number, and none of those after it
abbrev pub IsPlaceOf : ℕ → List Event → Option ℕ → Type 0
IsPlaceOf k es None = any_numbered k es ≡ false
IsPlaceOf k es (Some i) = (i < length es) × (any_numbered k (drop i es) ≡ true) × (any_numbered k (drop (i + 1) es) ≡ false)

-- The events have lost this one, and the others are left in their order.
pub record HaveLost (old : List Event) (e : Event) (new : List Event) : Type 0 where
  pub front : List Event
  pub back : List Event
  pub old_are : old ≡ front ++ e ∷ back
  pub new_are : new ≡ front ++ back

-- The events have lost the last one that has this number. None: none has it, and nothing changes.
abbrev pub HaveLostNumbered : ℕ → List Event → Option Event → List Event → Type 0
HaveLostNumbered k old (Some e) new = (lost : HaveLost old e new) × (has_number k e ≡ true) × (any_numbered k lost.back ≡ false)
HaveLostNumbered k old None new = (any_numbered k old ≡ false) × (new ≡ old)

module _ {C : Type 0} where
  -- the event that is taken: the last one to undo, or to redo, or the last one to undo that has the number
  abbrev pub event_for : Turn → Branches C → Option Event
  event_for Undo h = last_event h.undo
  event_for Redo h = last_event h.redo
  event_for (UndoEvent k) h = last_numbered k h.undo

  -- the events of its branch
  abbrev pub branch_of : Turn → Branches C → List Event
  branch_of Undo h = h.undo
  branch_of Redo h = h.redo
  branch_of (UndoEvent k) h = h.undo

  -- those that are left there once it is taken
  abbrev pub left_of : Turn → Branches C → List Event
  left_of Undo h = without_last h.undo
  left_of Redo h = without_last h.redo
  left_of (UndoEvent k) h = without_numbered k h.undo

  -- The branch has lost the event that is taken, which is this one, and no event is open. None: there is no such event, and
  -- nothing changes.
  abbrev pub IsPopped : Turn → Branches C → Option Event → Branches C → Type 0
  IsPopped Redo old (Some e) new = (old.redo ≡ new.redo ++ e ∷ []) × (new.undo ≡ old.undo) × (new.items ≡ old.items) × (new.is_open ≡ false)
  IsPopped Undo old (Some e) new = (old.undo ≡ new.undo ++ e ∷ []) × (new.redo ≡ old.redo) × (new.items ≡ old.items) × (new.is_open ≡ false)
  IsPopped (UndoEvent k) old (Some e) new = HaveLostNumbered k old.undo (Some e) new.undo × (new.redo ≡ old.redo) × (new.items ≡ old.items) × (new.is_open ≡ false)
  IsPopped Redo old None new = (old.redo ≡ []) × (new ≡ old)
  IsPopped Undo old None new = (old.undo ≡ []) × (new ≡ old)
  IsPopped (UndoEvent k) old None new = (any_numbered k old.undo ≡ false) × (new ≡ old)

  -- An event passes over: the one that is taken has left its branch, and this one, unless it has no step, is an event of the
  -- other branch. No event is open.
  abbrev pub turned : Turn → Branches C → Event → Branches C
  turned Undo h e = record h { undo = left_of Undo h; redo = with_event h.redo e; is_open = false }
  turned Redo h e = record h { undo = with_event h.undo e; redo = left_of Redo h; is_open = false }
  turned (UndoEvent k) h e = record h { undo = left_of (UndoEvent k) h; redo = with_event h.redo e; is_open = false }

  -- The event that is taken was undone, or redone, by the steps of these items. They are the event e.
  abbrev pub undone : Turn → Branches C → Event → List (Item C) → Branches C
  undone turn h e items = record (turned turn h e) { items = h.items ++ items }
