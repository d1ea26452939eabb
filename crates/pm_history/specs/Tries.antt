-- One change of an undo: what it needs and what it makes.
use Rattle.std.specs.Prelude.{ℕ, ◌+◌, List, [], ◌∷◌, ◌++◌, drop, Option, Some, None}
use Rattle.std.specs.List.{AllByRecursion as Each}
use Rattle.pm_change.specs.declared.name.Name.{Name}
use Rattle.pm_change.specs.Changes.{Meaning}
use Rattle.pm_history.specs.declared.item.Item.{Item}
use Rattle.pm_history.specs.declared.undoing.Undone.{Undone}
use Rattle.pm_history.specs.Shows.{Shows}
use Rattle.pm_history.specs.Undos.{own_item}

module _ {C : Type 0} where
  abbrev pub first_of : List (Item C) → Option (Item C × List (Item C))
  first_of [] = None
  first_of (i ∷ is) = Some (i, is)

  -- the item at this place, and those after it
  abbrev pub item_from : List (Item C) → Option ℕ → Option (Item C × List (Item C))
  item_from is None = None
  item_from is (Some k) = first_of (drop k is)

module _ {Rules Doc Reason C : Type 0} (m : Meaning Rules Doc Reason C) (rules : Rules) where
  -- these changes are within the document before the items
  pub record MayUndo (bs : List C) (is : List (Item C)) (end : Doc) : Type 0 where
    pub base : Doc
    pub good : m.is_good rules base
    pub shows : Shows m rules base is end
    pub within : Each (λ b. m.is_within b (m.size base)) bs

module _ {Rules Doc Reason C : Type 0} (m : Meaning Rules Doc Reason C) (rules : Rules) (client : ℕ) where
  -- what is made once one change was tried
  abbrev pub put_one : Option (C × Doc) → Name → Undone Doc C → Undone Doc C
  put_one None n w = w
  put_one (Some p) n w = record {
    doc = p.1;
    serial = w.serial + 1;
    made = w.made ++ p.0 ∷ [];
    items = w.items ++ own_item m rules client w.doc p.0 w.serial (Some n) ∷ [];
  }
