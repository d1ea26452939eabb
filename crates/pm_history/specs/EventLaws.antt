-- What an edit, an undo and a rebase do to the events, in words of lists of events.
use Rattle.std.specs.Prelude.{◌≡◌, ◌≢◌, ℕ, ◌&&◌, not, Bool, true, false, List, [], ◌∷◌, ◌++◌, length, map, Option, Some}
use Rattle.std.specs.List.{AllByRecursion as Each, list_any, filter}
use Rattle.pm_change.specs.declared.name.Name.{Name}
use Rattle.pm_map.specs.declared.step_map.Span.{Span}
use Rattle.pm_history.specs.declared.item.Item.{Item}
use Rattle.pm_history.specs.declared.branch.Event.{Event}
use Rattle.pm_history.specs.declared.branches.Branches.{Branches}
use Rattle.pm_history.specs.declared.branches.MadeBy.TheVariants.{Edit}
use Rattle.pm_history.specs.declared.turn.Turn.TheVariants.{Undo, Redo, UndoEvent}
use Rattle.pm_history.specs.Histories.{event_of, names_in, recorded, rebased}
use Rattle.pm_history.specs.Items.{one_step, foreign_item}
use Rattle.pm_history.specs.Turns.{event_for, undone}

-- the edit has a number, and the event has the same
abbrev pub HasNumber : Option ℕ → Event → Type 0
HasNumber event e = (k : ℕ) × (event ≡ Some k) × (e.number ≡ Some k)

-- whether one of these items is the step n
abbrev pub any_is : {C : Type 0} → Name → List (Item C) → Bool
any_is n items = list_any (λ i. one_step (Some n) i.name) items

-- whether the step n stood among the items that are gone, and stands in none of those kept
abbrev pub is_off : {C : Type 0} → List (Item C) → List (Item C) → Name → Bool
is_off gone kept n = any_is n gone && not (any_is n kept)

-- the event, with its number, without those of its steps that are off
abbrev pub without_off : {C : Type 0} → List (Item C) → List (Item C) → Event → Event
without_off gone kept e = event_of e.number (filter (λ n. not (is_off gone kept n)) e.names)

module _ {C : Type 0} (h : Branches C) where
  -- the last event to undo is this one, it is open, and it has the edit's number
  pub record IsOpenFor (event : Option ℕ) (rest : List Event) (e : Event) : Type 0 where
    pub last : h.undo ≡ rest ++ e ∷ []
    pub open_is : h.is_open ≡ true
    pub number_is : HasNumber event e

  -- the last event to undo that has this number stands between these others
  pub record IsLastOf (k : ℕ) (front back : List Event) (e : Event) : Type 0 where
    pub undo_are : h.undo ≡ front ++ e ∷ back
    pub number_is : e.number ≡ Some k
    pub none_behind : Each (λ f. f.number ≢ Some k) back

  -- what the steps of one edit do to the events
  pub record EditsEvents : Type 0 where
    -- where the last event is open and has the edit's number, its names are followed by those of the steps
    pub joined : (event : Option ℕ) (rest : List Event) (e : Event) (n : Name) (ns : List Name) → IsOpenFor event rest e
        → (recorded h (n ∷ ns) (Edit event true)).undo ≡ rest ++ event_of e.number (e.names ++ n ∷ ns) ∷ []
    -- else there is one event more, of these steps and this number
    pub opened : (event : Option ℕ) (n : Name) (ns : List Name) → ((rest : List Event) (e : Event) → IsOpenFor event rest e → ⊥)
        → (recorded h (n ∷ ns) (Edit event true)).undo ≡ h.undo ++ event_of event (n ∷ ns) ∷ []
    -- in any case the last event is open then, and nothing can be redone
    pub emptied : (event : Option ℕ) (n : Name) (ns : List Name)
        → ((recorded h (n ∷ ns) (Edit event true)).redo ≡ []) × ((recorded h (n ∷ ns) (Edit event true)).is_open ≡ true)

  -- what an undo by these items does to the events, and a redo
  pub record MovesEvents (items : List (Item C)) : Type 0 where
    -- the last event to undo is gone, and no event is open
    pub left : (rest : List Event) (e : Event) → h.undo ≡ rest ++ e ∷ []
        → ((undone Undo h (event_of e.number (names_in items)) items).undo ≡ rest) × ((undone Undo h (event_of e.number (names_in items)) items).is_open ≡ false)
    -- where steps were made, an event of these steps with its number is the last one to redo; where none was, there is none more
    pub moved : (e : Event) (n : Name) (ns : List Name) → names_in items ≡ n ∷ ns
        → (undone Undo h (event_of e.number (names_in items)) items).redo ≡ h.redo ++ event_of e.number (n ∷ ns) ∷ []
    pub lost : (e : Event) → names_in items ≡ [] → (undone Undo h (event_of e.number (names_in items)) items).redo ≡ h.redo
    -- the same of a redo, with the events to undo and to redo exchanged
    pub left_redo : (rest : List Event) (e : Event) → h.redo ≡ rest ++ e ∷ []
        → ((undone Redo h (event_of e.number (names_in items)) items).redo ≡ rest) × ((undone Redo h (event_of e.number (names_in items)) items).is_open ≡ false)
    pub moved_back : (e : Event) (n : Name) (ns : List Name) → names_in items ≡ n ∷ ns
        → (undone Redo h (event_of e.number (names_in items)) items).undo ≡ h.undo ++ event_of e.number (n ∷ ns) ∷ []
    pub lost_redo : (e : Event) → names_in items ≡ [] → (undone Redo h (event_of e.number (names_in items)) items).undo ≡ h.undo
    -- The same of an undo of the last event that has a number. The events before it and those after it stay.
    pub taken : (k : ℕ) (front back : List Event) (e : Event) → IsLastOf k front back e → event_for (UndoEvent k) h ≡ Some e
    pub left_event : (k : ℕ) (front back : List Event) (e : Event) → IsLastOf k front back e
        → ((undone (UndoEvent k) h (event_of e.number (names_in items)) items).undo ≡ front ++ back) × ((undone (UndoEvent k) h (event_of e.number (names_in items)) items).is_open ≡ false)
    pub moved_event : (k : ℕ) (e : Event) (n : Name) (ns : List Name) → names_in items ≡ n ∷ ns
        → (undone (UndoEvent k) h (event_of e.number (names_in items)) items).redo ≡ h.redo ++ event_of e.number (n ∷ ns) ∷ []
    pub lost_event : (k : ℕ) (e : Event) → names_in items ≡ [] → (undone (UndoEvent k) h (event_of e.number (names_in items)) items).redo ≡ h.redo

  -- what a rebase of the last items, `gone`, over foreign steps does to the events; `kept` are the items of the steps kept
  pub record RebasesEvents (front gone : List (Item C)) (foreign : List (List Span)) (kept : List (Item C)) : Type 0 where
    -- the items before them stay, and then stand the foreign steps and the steps kept
    pub items_are : (rebased h (length gone) foreign kept).items ≡ front ++ (map (λ m. foreign_item m) foreign ++ kept)
    -- The last event is open then exactly where it was.
    pub open_stays : (rebased h (length gone) foreign kept).is_open ≡ h.is_open
    -- Each event stands in its place, with its number, and has lost the steps that were dropped, and no other; also where none is left.
    pub undo_are : (rebased h (length gone) foreign kept).undo ≡ map (λ e. without_off gone kept e) h.undo
    pub redo_are : (rebased h (length gone) foreign kept).redo ≡ map (λ e. without_off gone kept e) h.redo
