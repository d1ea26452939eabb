-- Items of a timeline and their names.
use Rattle.std.specs.Prelude.{◌==◌, ◌&&◌, Bool, false, List, [], Option, Some, None}
use Rattle.std.specs.Option.{is_some}
use Rattle.pm_change.specs.declared.name.Name.{Name}
use Rattle.pm_map.specs.declared.step_map.Span.{Span}
use Rattle.pm_history.specs.declared.item.Item.{Item}
use Rattle.pm_history.specs.Fillings.{puts_in}

abbrev pub same_name : Name → Name → Bool
same_name a b = (a.client == b.client) && (a.serial == b.serial)

-- whether these are names of one step; a foreign step has no name here
abbrev pub one_step : Option Name → Option Name → Bool
one_step (Some a) (Some b) = same_name a b
one_step _ _ = false

-- the item of a foreign step
abbrev pub foreign_item : {C : Type 0} → List Span → Item C
foreign_item ranges = record { name = None; map = ranges; inverse = []; undoes = None }

-- whether the step was made to undo another and puts tokens in, as each does that brings deleted ones back
abbrev pub brings_back : {C : Type 0} → Item C → Bool
brings_back i = is_some i.undoes && puts_in i.map
