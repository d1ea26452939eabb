-- Items that were carried, tied as the items that they come from.
use Rattle.std.specs.Prelude.{if◌then◌else◌, List, [], ◌∷◌, map, Option, None}
use Rattle.pm_change.specs.declared.name.Name.{Name}
use Rattle.pm_history.specs.declared.item.Item.{Item}
use Rattle.pm_history.specs.Items.{one_step}

module _ {C : Type 0} where
  -- the name of the step that the own step of this name was made to undo, as these items say
  abbrev pub undoes_of : Option Name → List (Item C) → Option Name
  undoes_of n [] = None
  undoes_of n (i ∷ is) = if one_step n i.name then i.undoes else undoes_of n is

  -- an item that undoes what the old item of its name undoes
  abbrev pub tied_as : List (Item C) → Item C → Item C
  tied_as old i = record i { undoes = undoes_of i.name old }

  abbrev pub all_tied : List (Item C) → List (Item C) → List (Item C)
  all_tied old is = map (tied_as old) is
