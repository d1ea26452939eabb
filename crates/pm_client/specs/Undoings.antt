-- What undoing makes of a timeline, and what it restores.
use Rattle.std.specs.Prelude.{◌≡◌, ℕ, ◌+◌, List, ◌++◌, length, slice_get, Some}
use Rattle.std.specs.List.{AllByRecursion as Each}
use Rattle.pm_change.specs.declared.name.Name.{Name}
use Rattle.pm_change.specs.Changes.{Meaning}
use Rattle.pm_history.specs.declared.branch.Event.{Event}
use Rattle.pm_history.specs.declared.turn.Turn.{Turn}
use Rattle.pm_history.specs.Turns.{event_for}
use Rattle.pm_history.specs.Timelines.{Step, Ties, items_from}
use Rattle.pm_history.specs.Undos.{undo_event}
use Rattle.pm_history.specs.Unchanged.{NothingSince}
use Rattle.pm_client.specs.declared.client.Client.{Client}
use Rattle.pm_client.specs.Clients.{turned}

module _ {C : Type 0} where
  -- an own step that was made to undo a step with one of these names
  abbrev pub UndoesOne : List Name → Step C → Type 0
  UndoesOne names u = (k : ℕ) × (n : Name) × (slice_get names k ≡ Some n) × Ties n u

  -- the last steps of a timeline, so many, were each made to undo a step with one of these names
  abbrev pub EndsTied : List Name → ℕ → List (Step C) → Type 0
  EndsTied names count timeline = (front made : List (Step C)) × (timeline ≡ front ++ made) × (length made ≡ count) × Each (UndoesOne names) made

module _ {Rules Doc Reason C : Type 0} (m : Meaning Rules Doc Reason C) (rules : Rules) where
  -- Where nothing has changed in the timeline since the event that is taken, this is the document before that event. The event
  -- is the last one to undo, or to redo, or the last one to undo that has the number. Nothing has changed where, from the
  -- event's first step on, the timeline reads the event's steps, each followed by an idle stretch, and the rules are loose or
  -- each step's stored inverse applies at its turn.
  abbrev pub GivesBack : Turn → Client C Rules Doc Reason → Doc → List (Step C) → Doc → Type 0
  GivesBack turn c first timeline doc =
      (e : Event) (before : Doc) → event_for turn c.history ≡ Some e → NothingSince m rules e.names first timeline before c.doc → doc ≡ before

  -- The event that is taken was undone over all steps of this timeline, by so many steps: each stored inverse was carried over
  -- the maps of all later steps, whatever the history still remembers of them.
  abbrev pub TurnsOver : Turn → Client C Rules Doc Reason → Doc → List (Step C) → ℕ → Client C Rules Doc Reason → Type 0
  TurnsOver turn c first timeline n next =
      (e : Event) → event_for turn c.history ≡ Some e
      → (let w = undo_event m rules c.name e.names (items_from m rules first timeline) c.doc (c.serials + 1) in (n ≡ length w.made) × (next ≡ turned m c turn e.number w))

-- The event that is taken was undone by so many steps. They are the last ones of this timeline, and each was made to undo a step
-- of the event.
abbrev pub TiesLast : {Rules Doc Reason C : Type 0} → Turn → Client C Rules Doc Reason → ℕ → List (Step C) → Type 0
TiesLast turn c count timeline = (e : Event) → event_for turn c.history ≡ Some e → EndsTied e.names count timeline
