-- How a history stands to its client's timeline.
use Rattle.std.specs.Prelude.{◌≡◌, ℕ, ◌≤◌, true, List, Option, Some, None}
use Rattle.std.specs.List.{AllByRecursion as Each}
use Rattle.pm_change.specs.declared.name.Name.{Name}
use Rattle.pm_change.specs.Changes.{Meaning}
use Rattle.pm_history.specs.declared.item.Item.{Item}
use Rattle.pm_history.specs.declared.branches.Branches.{Branches}
use Rattle.pm_history.specs.Histories.{holds}
use Rattle.pm_history.specs.Timelines.{Step, items_from}
use Rattle.pm_history.specs.Tidy.{NoneUndoes, IsTidy}
use Rattle.pm_history.specs.Remembers.{live_names, Remembers}

-- the name of a step of this client, with one of the serials that it has drawn
abbrev pub IsDrawn : ℕ → ℕ → Option Name → Type 0
IsDrawn client drawn None = Unit {0}
IsDrawn client drawn (Some n) = (n.client ≡ client) × (n.serial ≤ drawn)

-- the same of an item, and of the step that it undoes
abbrev pub HasDrawn : {C : Type 0} → ℕ → ℕ → Item C → Type 0
HasDrawn client drawn i = IsDrawn client drawn i.name × IsDrawn client drawn i.undoes

module _ {Rules Doc Reason C : Type 0} (m : Meaning Rules Doc Reason C) (rules : Rules) where
  -- The history of a client stands for the timeline of these steps, which leads on from the document `first`.
  pub record IsHistoryOf (client drawn : ℕ) (first : Doc) (steps : List (Step C)) (h : Branches C) : Type 0 where
    -- the items are those of the last steps, and the steps of all events are among these
    pub remembers : Remembers m rules (live_names h) first steps h.items
    -- Own steps have names that differ, and so have the steps of events. No two steps with a range undo one step.
    pub tidy : IsTidy (items_from m rules first steps) (live_names h)
    -- no own step, with or without a range, was made to undo a step whose name stands in an event
    pub live : Each (λ n. NoneUndoes n (items_from m rules first steps)) (live_names h)
    -- each name in an event is that of an own step of the timeline
    pub stand : Each (λ n. holds n (items_from m rules first steps) ≡ true) (live_names h)
    -- own steps, and those that they undo, have names that the client has drawn
    pub drawn_are : Each (HasDrawn client drawn) (items_from m rules first steps)
