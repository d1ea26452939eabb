-- What contracts see of an item.
use Rattle.std.specs.Prelude.{List, Option}
use Rattle.pm_change.specs.declared.name.Name.{Name}
use Rattle.pm_map.specs.declared.step_map.Span.{Span}

-- what is kept of a step of the timeline: its name, where it is an own one, its map, the changes that undo it, and the name of
-- the own step that it was made to undo
pub record Kept (C : Type 0) : Type 0 where
  pub name : Option Name
  pub map : List Span
  pub inverse : List C
  pub undoes : Option Name
