-- What undoing an event makes.
use Rattle.std.specs.Prelude.{ℕ, ◌+◌, if◌then◌else◌, List, [], ◌∷◌, ◌++◌, Option, Some, None, Result, Ok, Err}
use Rattle.pm_change.specs.declared.name.Name.{Name}
use Rattle.pm_change.specs.Changes.{Meaning}
use Rattle.pm_history.specs.declared.item.Item.{Item}
use Rattle.pm_history.specs.declared.undoing.Undone.{Undone}
use Rattle.pm_history.specs.Items.{one_step}
use Rattle.pm_history.specs.Pairs.{paired}

-- the item of this name, and the items after it
abbrev pub find : {C : Type 0} → Name → List (Item C) → Option (Item C × List (Item C))
find n [] = None
find n (i ∷ is) = if one_step (Some n) i.name then Some (i, is) else find n is

module _ {Doc C : Type 0} where
  -- no step is made
  abbrev pub none_made : Doc → ℕ → Undone Doc C
  none_made doc serial = record { doc = doc; serial = serial; made = []; items = [] }

  -- the steps made first, and then those made after them
  abbrev pub then_made : Undone Doc C → Undone Doc C → Undone Doc C
  then_made w v = record { doc = v.doc; serial = v.serial; made = w.made ++ v.made; items = w.items ++ v.items }

module _ {Rules Doc Reason C : Type 0} (m : Meaning Rules Doc Reason C) (rules : Rules) (client : ℕ) where
  -- the item of an own step, made on this document
  abbrev pub own_item : Doc → C → ℕ → Option Name → Item C
  own_item doc c serial undoes = record {
    name = Some (record { client = client; serial = serial });
    map = m.step_map c;
    inverse = m.inverse rules c doc;
    undoes = undoes;
  }

  abbrev pub where_applies : Result Doc Reason → C → Option (C × Doc)
  where_applies (Ok d) c = Some (c, d)
  where_applies (Err r) c = None

  -- a carried change and the document after it; None where it is lost or does not apply
  abbrev pub tried : Option C → Doc → Option (C × Doc)
  tried None doc = None
  tried (Some c) doc = where_applies (m.outcome rules c doc) c

  -- A change that is lost or does not apply is left out. Else it is made, tied to the step that it undoes, and stands among
  -- the later items of the rest.
  abbrev pub put : Option (C × Doc) → Name → List (Item C) → Doc → ℕ → (List (Item C) → Doc → ℕ → Undone Doc C) → Undone Doc C
  put None n later doc serial rest = rest later doc serial
  put (Some p) n later doc serial rest =
      let i = own_item doc p.0 serial (Some n) in
      let w = rest (later ++ i ∷ []) p.1 (serial + 1) in
      record { doc = w.doc; serial = w.serial; made = p.0 ∷ w.made; items = i ∷ w.items }

  -- the changes that undo the step n, each carried over the maps of all later items
  abbrev pub undo_steps : Name → List C → List (Item C) → Doc → ℕ → Undone Doc C
  undo_steps n [] later doc serial = none_made doc serial
  undo_steps n (b ∷ bs) later doc serial =
      put (tried (m.carry b (paired later)) doc) n later doc serial (λ l d s. undo_steps n bs l d s)

  -- The step n, where it stands in the timeline. The later items are those after it and those made so far.
  abbrev pub undo_found : Name → Option (Item C × List (Item C)) → List (Item C) → Doc → ℕ → Undone Doc C
  undo_found n None made doc serial = none_made doc serial
  undo_found n (Some p) made doc serial = undo_steps n p.0.inverse (p.1 ++ made) doc serial

  -- the steps of an event, from the last to the first
  abbrev pub undo_event : List Name → List (Item C) → Doc → ℕ → Undone Doc C
  undo_event [] items doc serial = none_made doc serial
  undo_event (n ∷ ns) items doc serial =
      let w = undo_event ns items doc serial in
      then_made w (undo_found n (find n items) w.items w.doc w.serial)
