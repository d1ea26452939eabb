-- A history: the items of the timeline, and the events that can be undone and redone.
use Rattle.std.specs.Prelude.{ℕ, ◌-◌, ◌==◌, ◌&&◌, ◌||◌, not, Bool, true, false, if◌then◌else◌, List, [], ◌∷◌, ◌++◌, length, take, drop, Option, Some, None}
use Rattle.pm_change.specs.declared.name.Name.{Name}
use Rattle.pm_map.specs.declared.step_map.Span.{Span}
use Rattle.pm_map.specs.declared.mapping.Mirrored.{Mirrored}
use Rattle.pm_history.specs.declared.item.Item.{Item}
use Rattle.pm_history.specs.declared.branch.Event.{Event}
use Rattle.pm_history.specs.declared.branches.MadeBy.{MadeBy}
use Rattle.pm_history.specs.declared.branches.MadeBy.TheVariants as made_by
use Rattle.pm_history.specs.declared.branches.Branches.{Branches}
use Rattle.pm_history.specs.Items.{one_step, foreign_item}
use Rattle.pm_history.specs.Pairs.{paired}

-- an event of these steps
abbrev pub event_of : Option ℕ → List Name → Event
event_of number ns = record { number = number; names = ns }

-- these steps more in the last event
abbrev pub extended : List Event → List Name → List Event
extended [] ns = []
extended (e ∷ []) ns = event_of e.number (e.names ++ ns) ∷ []
extended (e ∷ f ∷ es) ns = e ∷ extended (f ∷ es) ns

-- Steps open a new event, or join the last one. Where there is no event they open one.
abbrev pub put_event : Bool → Option ℕ → List Event → List Name → List Event
put_event true number es ns = es ++ event_of number ns ∷ []
put_event false number [] ns = event_of number ns ∷ []
put_event false number (e ∷ es) ns = extended (e ∷ es) ns

-- whether an edit has this number
abbrev pub is_number : Option ℕ → Option ℕ → Bool
is_number (Some k) (Some j) = k == j
is_number _ _ = false

abbrev pub last_number : List Event → Option ℕ
last_number [] = None
last_number (e ∷ []) = e.number
last_number (e ∷ f ∷ es) = last_number (f ∷ es)

-- the last of these events
abbrev pub last_event : List Event → Option Event
last_event [] = None
last_event (e ∷ []) = Some e
last_event (e ∷ f ∷ es) = last_event (f ∷ es)

-- the events without the last one
abbrev pub without_last : List Event → List Event
without_last [] = []
without_last (e ∷ []) = []
without_last (e ∷ f ∷ es) = e ∷ without_last (f ∷ es)

-- an event more, unless it has no step
abbrev pub with_event : List Event → Event → List Event
with_event es e = if (length e.names == 0) then es else es ++ e ∷ []

abbrev pub add_name : Option Name → List Name → List Name
add_name None ns = ns
add_name (Some n) ns = n ∷ ns

module _ {C : Type 0} where
  -- whether one of these items has this name
  abbrev pub holds : Name → List (Item C) → Bool
  holds n [] = false
  holds n (i ∷ is) = one_step (Some n) i.name || holds n is

  -- a step that is gone, and is not among those kept
  abbrev pub is_dropped : List (Item C) → List (Item C) → Name → Bool
  is_dropped gone kept n = holds n gone && not (holds n kept)

  -- the names of the steps that were not dropped
  abbrev pub still_named : List (Item C) → List (Item C) → List Name → List Name
  still_named gone kept [] = []
  still_named gone kept (n ∷ ns) = if is_dropped gone kept n then still_named gone kept ns else n ∷ still_named gone kept ns

  -- A dropped step leaves its event. The event stays.
  abbrev pub without_dropped : List (Item C) → List (Item C) → List Event → List Event
  without_dropped gone kept [] = []
  without_dropped gone kept (e ∷ es) = record { number = e.number; names = still_named gone kept e.names } ∷ without_dropped gone kept es

  abbrev pub foreign_items : List (List Span) → List (Item C)
  foreign_items [] = []
  foreign_items (map ∷ maps) = foreign_item map ∷ foreign_items maps

  -- the history of a new client
  abbrev pub new_history : Branches C
  new_history = record { items = []; undo = []; redo = []; is_open = false }

  -- a foreign step
  abbrev pub noted : Branches C → List Span → Branches C
  noted h ranges = record h { items = h.items ++ foreign_item ranges ∷ [] }

  -- Whether an edit's steps open an event. All steps of one call stand in one event. The first of them joins the last event
  -- where that is open and has the edit's number; an edit without a number joins none.
  abbrev pub opens : Branches C → Option ℕ → Bool → Bool
  opens h event first = first && not (h.is_open && is_number event (last_number h.undo))

  -- Steps of an edit stand in the last event to undo, which is open then, and empty the redo branch. Steps of an undo stand
  -- in the last event to redo, and those of a redo in the last event to undo; both leave no event open.
  abbrev pub recorded : Branches C → List Name → MadeBy → Branches C
  recorded h ns (made_by.Edit event first) = record h { undo = put_event (opens h event first) event h.undo ns; redo = []; is_open = true }
  recorded h ns (made_by.Undo event first) = record h { redo = put_event first event h.redo ns; is_open = false }
  recorded h ns (made_by.Redo event first) = record h { undo = put_event first event h.undo ns; is_open = false }

  -- the names of these items; a foreign step has none
  abbrev pub names_in : List (Item C) → List Name
  names_in [] = []
  names_in (i ∷ is) = add_name i.name (names_in is)

  -- no step, nothing new
  abbrev pub recorded_where : Branches C → List Name → MadeBy → Branches C
  recorded_where h [] call = h
  recorded_where h (n ∷ ns) call = recorded h (n ∷ ns) call

  -- own steps of one call
  abbrev pub noted_all : Branches C → List (Item C) → MadeBy → Branches C
  noted_all h is call = record (recorded_where h (names_in is) call) { items = h.items ++ is }

  -- one own step
  abbrev pub noted_own : Branches C → Item C → MadeBy → Branches C
  noted_own h i call = noted_all h (i ∷ []) call

  -- the last items
  abbrev pub last_items : ℕ → List (Item C) → List (Item C)
  last_items count items = drop (length items - count) items

  -- The foreign steps and the steps kept stand in place of the last ones. Those not kept leave their events.
  abbrev pub rebased : Branches C → ℕ → List (List Span) → List (Item C) → Branches C
  rebased h count foreign kept = record {
    items = take (length h.items - count) h.items ++ (foreign_items foreign ++ kept);
    undo = without_dropped (last_items count h.items) kept h.undo;
    redo = without_dropped (last_items count h.items) kept h.redo;
    is_open = h.is_open;
  }

  -- the maps after an item that was found
  abbrev pub later_of : Option (Item C × List (Item C)) → Option (List Mirrored)
  later_of None = None
  later_of (Some p) = Some (paired p.1)
