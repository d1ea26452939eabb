-- What contracts see of a history.
use Rattle.std.specs.Prelude.{Bool, List}
use Rattle.pm_history.specs.declared.item.Item.{Item}
use Rattle.pm_history.specs.declared.branch.Event.{Event}

-- the items that are kept of the timeline, in order, the events that can be undone and those that can be redone, oldest
-- first, and whether the last event to undo is open
pub record History (C : Type 0) : Type 0 where
  pub items : List (Item C)
  pub undo : List Event
  pub redo : List Event
  pub is_open : Bool
