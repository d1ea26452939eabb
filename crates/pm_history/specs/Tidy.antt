-- What holds of the names in a timeline and its events.
use Rattle.std.specs.Prelude.{◌≡◌, ◌⊎◌, true, false, List, [], ◌∷◌, Option, Some, None}
use Rattle.std.specs.List.{AllByRecursion as Each}
use Rattle.pm_change.specs.declared.name.Name.{Name}
use Rattle.pm_history.specs.declared.item.Item.{Item}
use Rattle.pm_history.specs.Items.{same_name, one_step}

module _ {C : Type 0} where
  -- no item has this name
  abbrev pub NotNamed : Option Name → List (Item C) → Type 0
  NotNamed None is = Unit {0}
  NotNamed (Some n) is = Each (λ i. one_step (Some n) i.name ≡ false) is

  -- the names of the own items differ
  abbrev pub NamesDiffer : List (Item C) → Type 0
  NamesDiffer [] = Unit {0}
  NamesDiffer (i ∷ is) = NotNamed i.name is × NamesDiffer is

  -- no item was made to undo the step of this name
  abbrev pub NoneUndoes : Name → List (Item C) → Type 0
  NoneUndoes n is = Each (λ i. one_step (Some n) i.undoes ≡ false) is

  -- no item whose map has a range was made to undo the step of this name
  abbrev pub NoRangeUndoes : Option Name → List (Item C) → Type 0
  NoRangeUndoes n [] = Unit {0}
  NoRangeUndoes n (i ∷ is) = (one_step n i.undoes ≡ true → i.map ≡ []) × NoRangeUndoes n is

  -- no two items whose maps have a range were made to undo one step
  abbrev pub Once : List (Item C) → Type 0
  Once [] = Unit {0}
  Once (i ∷ is) = ((n : Name) → one_step (Some n) i.undoes ≡ true → (i.map ≡ []) ⊎ NoRangeUndoes (Some n) is) × Once is

-- no name stands twice
abbrev pub Differ : List Name → Type 0
Differ [] = Unit {0}
Differ (n ∷ ns) = Each (λ k. same_name n k ≡ false) ns × Differ ns

-- These names of events are in order with the items: no name stands twice, among the items as among the names, and no two
-- items whose maps have a range undo one step.
pub record IsTidy {C : Type 0} (items : List (Item C)) (ns : List Name) : Type 0 where
  pub names_differ : NamesDiffer items
  pub once : Once items
  pub differ : Differ ns
