-- The items after a step, and how positions go over their maps.
use Rattle.std.specs.Prelude.{◌≡◌, Bool, true, false, ℕ, zero, suc, List, [], ◌∷◌, ◌++◌, Option, Some, None}
use Rattle.std.specs.List.{AllByRecursion as Each}
use Rattle.std.specs.Option.{is_some}
use Rattle.pm_map.specs.declared.mapping.Mirrored.{Mirrored}
use Rattle.pm_map.specs.Fits.{FitBetween}
use Rattle.pm_map.specs.Through.{ArePaired}
use Rattle.pm_history.specs.declared.item.Item.{Item}
use Rattle.pm_history.specs.declared.later.Later.{Later}
use Rattle.pm_history.specs.declared.undoers.Undoers.{Undoers}
use Rattle.pm_history.specs.Items.{brings_back}
use Rattle.pm_history.specs.Pairs.{later_in, paired}
use Rattle.pm_history.specs.Undoers.{IsTableOf}

module _ {C : Type 0} where
  -- all that are lent, in order
  abbrev pub items_of : Later C → List (Item C)
  items_of l = l.items.now ++ l.made.now

  -- the map of the item at this place, with its mirror
  abbrev pub entry_at : List (Item C) → ℕ → Mirrored
  entry_at [] k = record { map = []; later = None }
  entry_at (i ∷ is) zero = record { map = i.map; later = later_in i.name i.map is }
  entry_at (i ∷ is) (suc k) = entry_at is k

  -- whether a table is made for this item: to tell of all items for each that undoes a step, and to tell positions for each that
  -- brings tokens back
  abbrev pub is_told : Bool → Item C → Bool
  is_told true i = is_some i.undoes
  is_told false i = brings_back i

  -- the table of these items; there is none where it is made for none of them
  abbrev pub Tells : Bool → Option Undoers → List (Item C) → Type 0
  Tells all None is = Each (λ i. is_told all i ≡ false) is
  Tells all (Some u) is = IsTableOf u is

  -- it tells positions
  abbrev pub IsTold : Option Undoers → List (Item C) → Type 0
  IsTold o is = Tells false o is

  -- it tells of all items
  abbrev pub TellsAll : Option Undoers → List (Item C) → Type 0
  TellsAll o is = Tells true o is

  -- the same where it tells of the item at this place; where there is none, that item has no mirror
  abbrev pub TellsOf : Option Undoers → List (Item C) → ℕ → Type 0
  TellsOf None is k = (entry_at is k).later ≡ None
  TellsOf (Some u) is k = IsTableOf u is

  -- The items stand for the mapping of their maps, between sizes that it fits.
  pub record Leads (l : Later C) (ms : List Mirrored) (n k : ℕ) : Type 0 where
    pub is : ms ≡ paired (items_of l)
    pub paired_are : ArePaired ms
    pub fits : FitBetween ms n k
    pub told : IsTold l.undoers (items_of l)
