-- What a history's items have to keep of a timeline.
use Rattle.std.specs.Prelude.{◌≡◌, ◌⊎◌, false, List, [], ◌∷◌, ◌++◌, Some}
use Rattle.std.specs.List.{AllByRecursion as Each}
use Rattle.pm_change.specs.declared.name.Name.{Name}
use Rattle.pm_change.specs.Changes.{Meaning, fold}
use Rattle.pm_history.specs.declared.item.Item.{Item}
use Rattle.pm_history.specs.declared.branch.Event.{Event}
use Rattle.pm_history.specs.declared.branches.Branches.{Branches}
use Rattle.pm_history.specs.Items.{one_step}
use Rattle.pm_history.specs.Timelines.{Step, changes_of, items_from}

-- the names of the steps of events
abbrev pub names_of : List Event → List Name
names_of [] = []
names_of (e ∷ es) = e.names ++ names_of es

-- the names that stand in the events of a history
abbrev pub live_names : {C : Type 0} → Branches C → List Name
live_names h = names_of h.undo ++ names_of h.redo

module _ {C : Type 0} where
  -- none of these items has this name
  abbrev pub Lacks : List (Item C) → Name → Type 0
  Lacks items n = Each (λ i. one_step (Some n) i.name ≡ false) items

  -- An item stands for another: it has that one's name and map, and was made to undo the same step. The changes that undo it
  -- are that one's; they may be left out where no live name is its name.
  pub record StandsFor (live : List Name) (i j : Item C) : Type 0 where
    pub name_is : i.name ≡ j.name
    pub map_is : i.map ≡ j.map
    pub undoes_is : i.undoes ≡ j.undoes
    pub inverse_is : (i.inverse ≡ j.inverse) ⊎ ((i.inverse ≡ []) × Each (λ n. one_step (Some n) j.name ≡ false) live)

  -- the same of each item of a list
  abbrev pub StandFor : List Name → List (Item C) → List (Item C) → Type 0
  StandFor live [] [] = Unit {0}
  StandFor live (i ∷ is) (j ∷ js) = StandsFor live i j × StandFor live is js
  StandFor live _ _ = ⊥

module _ {Rules Doc Reason C : Type 0} (m : Meaning Rules Doc Reason C) (rules : Rules) where
  -- The items stand for the last steps of a timeline from the document `first` on, among which are all own steps with a live
  -- name.
  pub record Remembers (live : List Name) (first : Doc) (steps : List (Step C)) (items : List (Item C)) : Type 0 where
    pub gone : List (Step C)
    pub kept : List (Step C)
    pub mid : Doc
    pub steps_are : steps ≡ gone ++ kept
    pub reaches : fold m rules first (changes_of gone) ≡ Some mid
    pub stand : StandFor live items (items_from m rules mid kept)
    pub lacks : Each (Lacks (items_from m rules first gone)) live
