-- Items of entries, from which it is told whether later ones lie apart.
use Rattle.std.specs.Prelude.{ℕ, ◌+◌, List, [], ◌∷◌, map, Some, None}
use Rattle.pm_change.specs.declared.name.Name.{Name}
use Rattle.pm_change.specs.Changes.{Meaning}
use Rattle.pm_authority.specs.declared.named.Named.{Named}
use Rattle.pm_history.specs.declared.item.Item.{Item}
use Rattle.pm_history.specs.Items.{foreign_item}

-- the name that the entry at this place is given
abbrev pub name_at : ℕ → Name
name_at i = record { client = 0; serial = i }

abbrev pub names_from : {C : Type 0} → ℕ → List (Named C) → List Name
names_from i [] = []
names_from i (n ∷ ns) = name_at i ∷ names_from (i + 1) ns

module _ {Rules Doc Reason C : Type 0} (m : Meaning Rules Doc Reason C) where
  -- an item without the changes that undo its step
  abbrev pub own_at : ℕ → Named C → Item C
  own_at i n = record { name = Some (name_at i); map = m.step_map n.change; inverse = []; undoes = None }

  -- the items of these entries, the first of which stands at place i
  abbrev pub own_items : ℕ → List (Named C) → List (Item C)
  own_items i [] = []
  own_items i (n ∷ ns) = own_at i n ∷ own_items (i + 1) ns

  abbrev pub other_at : Named C → Item C
  other_at n = foreign_item (m.step_map n.change)

  abbrev pub other_items : List (Named C) → List (Item C)
  other_items ns = map other_at ns
