-- Timelines of steps, their items, and stretches of them in which each step is undone.
use Rattle.std.specs.Prelude.{◌≡◌, Bool, true, if◌then◌else◌, List, [], ◌∷◌, ◌++◌, map, Option, Some, Result, Ok, Err}
use Rattle.std.specs.List.{AllByRecursion as Each}
use Rattle.pm_map.specs.Stills.{AreApart}
use Rattle.pm_change.specs.declared.name.Name.{Name}
use Rattle.pm_change.specs.Changes.{Meaning, Applies, fold}
use Rattle.pm_history.specs.declared.item.Item.{Item}
use Rattle.pm_history.specs.Items.{foreign_item}

-- A step of a client's timeline: whether it is the client's own, and the name of the own step that it was made to undo.
pub record Step (C : Type 0) : Type 0 where
  pub name : Name
  pub own : Bool
  pub change : C
  pub undoes : Option Name

abbrev pub change_of : {C : Type 0} → Step C → C
change_of s = s.change

abbrev pub changes_of : {C : Type 0} → List (Step C) → List C
changes_of ss = map change_of ss

-- an own step that was made to undo the step n
abbrev pub Ties : {C : Type 0} → Name → Step C → Type 0
Ties n u = (u.own ≡ true) × (u.undoes ≡ Some n)

module _ {Rules Doc Reason C : Type 0} (m : Meaning Rules Doc Reason C) (rules : Rules) where
  -- The item of a step on this document. The changes that undo an own step are those on the document before it.
  abbrev pub item_at : Doc → Step C → Item C
  item_at doc s =
      if s.own
      then record { name = Some s.name; map = m.step_map s.change; inverse = m.inverse rules s.change doc; undoes = s.undoes }
      else foreign_item (m.step_map s.change)

  abbrev pub next_items : Result Doc Reason → (Doc → List (Item C)) → List (Item C)
  next_items (Ok d) go = go d
  next_items (Err r) go = []

  -- the items of these steps, made one after another from this document on
  abbrev pub items_from : Doc → List (Step C) → List (Item C)
  items_from doc [] = []
  items_from doc (s ∷ ss) = item_at doc s ∷ next_items (m.outcome rules s.change doc) (λ d. items_from d ss)

  -- A stretch of a timeline from this document on is idle in these cases alone: it is empty; it is two idle stretches one
  -- after the other; it is an own step whose ranges don't touch, then an idle stretch, and then the changes that undo the
  -- step, each an own step that was made to undo it.
  pub data Idle : Doc → List (Step C) → Type 0 where
    nothing : (doc : Doc) → Idle doc []
    both : (doc mid : Doc) (xs ys : List (Step C)) → Idle doc xs → fold m rules doc (changes_of xs) ≡ Some mid → Idle mid ys → Idle doc (xs ++ ys)
    undone : (doc next : Doc) (s : Step C) (xs us : List (Step C)) → s.own ≡ true → Applies m rules s.change doc next
        → AreApart (m.step_map s.change) 0 → Idle next xs → changes_of us ≡ m.inverse rules s.change doc → Each (Ties s.name) us
        → Idle doc (s ∷ (xs ++ us))
