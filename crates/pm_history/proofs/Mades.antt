-- What an undo makes are own steps that apply one after another.
use Rattle.std.specs.Prelude.{◌≡◌, ℕ, suc, ◌+◌, true, List, [], ◌∷◌, ◌++◌, length, Option, Some, None, Result, Ok, Err, refl}
use Rattle.std.proofs.Common.{sym, ap, subst, ◌∙◌, arith, length-append}
use Rattle.pm_change.specs.declared.name.Name.{Name}
use Rattle.pm_change.specs.Changes.{Meaning, fold}
use Rattle.pm_change.proofs.Folds.{fold-append}
use Rattle.pm_history.specs.declared.item.Item.{Item}
use Rattle.pm_history.specs.declared.undoing.Undone.{Undone}
use Rattle.pm_history.specs.Timelines.{Step, changes_of, next_items, items_from}
use Rattle.pm_history.specs.Undos.{find, none_made, then_made, own_item, where_applies, tried, put, undo_steps, undo_found, undo_event}
use Rattle.pm_history.specs.Pairs.{paired}
use Rattle.pm_history.specs.Made.{made_steps, IsMade}
use Rattle.pm_history.proofs.Folding.{fold-first, items-append}

module _ {C : Type 0} (client : ℕ) where
  steps-append : (serial : ℕ) (cs ds : List C) (is js : List (Item C)) → length is ≡ length cs
      → made_steps client serial (cs ++ ds) (is ++ js) ≡ made_steps client serial cs is ++ made_steps client (serial + length cs) ds js
  steps-append serial [] ds [] js l = ap (λ k. made_steps client k ds js) (zero-more serial)
    where
      zero-more : (k : ℕ) → k ≡ k + 0
      zero-more k = omega arith
  steps-append serial [] ds (i ∷ is) js l = absurd (omega (arith, l))
  steps-append serial (c ∷ cs) ds [] js l = absurd (omega (arith, l))
  steps-append serial (c ∷ cs) ds (i ∷ is) js l =
      let s : Step C = record { name = record { client = client; serial = serial }; own = true; change = c; undoes = i.undoes } in
      ap (λ ss. s ∷ ss) (steps-append (serial + 1) cs ds is js (omega (arith, l)))
      ∙ ap (λ k. s ∷ (made_steps client (serial + 1) cs is ++ made_steps client k ds js)) (moved serial (length cs))
    where
      moved : (a b : ℕ) → a + 1 + b ≡ a + suc b
      moved a b = omega arith

  steps-changes : (serial : ℕ) (cs : List C) (is : List (Item C)) → length is ≡ length cs → changes_of (made_steps client serial cs is) ≡ cs
  steps-changes serial [] is l = refl
  steps-changes serial (c ∷ cs) [] l = absurd (omega (arith, l))
  steps-changes serial (c ∷ cs) (i ∷ is) l = ap (λ ds. c ∷ ds) (steps-changes (serial + 1) cs is (omega (arith, l)))

module _ {Rules Doc Reason C : Type 0} (m : Meaning Rules Doc Reason C) (rules : Rules) (client : ℕ) where
  made-none : (doc : Doc) (serial : ℕ) → IsMade m rules client doc serial (none_made doc serial)
  made-none doc serial = record { applies = refl; items_are = refl; as_many = refl; serial_is = omega arith }

  made-then : (doc : Doc) (serial : ℕ) (w v : Undone Doc C) → IsMade m rules client doc serial w → IsMade m rules client w.doc w.serial v → IsMade m rules client doc serial (then_made w v)
  made-then doc serial w v h k =
      let folds : fold m rules doc (changes_of (made_steps client serial w.made w.items)) ≡ Some w.doc =
      ap (fold m rules doc) (steps-changes client serial w.made w.items h.as_many) ∙ h.applies in
      record {
        applies = fold-append m rules doc w.doc w.made v.made h.applies ∙ k.applies;
        items_are = ap (λ is. is ++ v.items) h.items_are ∙ ap (λ is. items_from m rules doc (made_steps client serial w.made w.items) ++ is) k.items_are
            ∙ sym (items-append m rules doc w.doc (made_steps client serial w.made w.items) (made_steps client w.serial v.made v.items) folds)
            ∙ ap (λ j. items_from m rules doc (made_steps client serial w.made w.items ++ made_steps client j v.made v.items)) h.serial_is
            ∙ ap (λ ss. items_from m rules doc ss) (sym (steps-append client serial w.made v.made w.items v.items h.as_many));
        as_many = (let a = length-append w.items v.items in let b = length-append w.made v.made in omega (arith, a, b, h.as_many, k.as_many));
        serial_is = (let b = length-append w.made v.made in omega (arith, b, h.serial_is, k.serial_is));
      }

  made-put : (n : Name) (doc next : Doc) (c : C) (serial : ℕ) (w : Undone Doc C) → m.outcome rules c doc ≡ Ok next → IsMade m rules client next (serial + 1) w
      → IsMade m rules client doc serial (record { doc = w.doc; serial = w.serial; made = c ∷ w.made; items = own_item m rules client doc c serial (Some n) ∷ w.items })
  made-put n doc next c serial w e h = record {
    applies = fold-first m rules doc next c w.made e ∙ h.applies;
    items_are =
        let i = own_item m rules client doc c serial (Some n) in
        let ss = made_steps client (serial + 1) w.made w.items in
        ap (λ is. i ∷ is) h.items_are ∙ ap (λ r. i ∷ next_items m rules r (λ d. items_from m rules d ss)) (sym e);
    as_many = ap suc h.as_many;
    serial_is = omega (arith, h.serial_is);
  }

  made-steps : (n : Name) (bs : List C) (later : List (Item C)) (doc : Doc) (serial : ℕ) → IsMade m rules client doc serial (undo_steps m rules client n bs later doc serial)
  made-steps n [] later doc serial = made-none doc serial
  made-steps n (b ∷ bs) later doc serial = from (m.carry b (paired later)) (λ l d s. made-steps n bs l d s)
    where
      applied : (c : C) (r : Result Doc Reason) → m.outcome rules c doc ≡ r
          → ((l : List (Item C)) (d : Doc) (s : ℕ) → IsMade m rules client d s (undo_steps m rules client n bs l d s))
          → IsMade m rules client doc serial (put m rules client (where_applies m rules client r c) n later doc serial (λ l d s. undo_steps m rules client n bs l d s))
      applied c (Err x) e go = go later doc serial
      applied c (Ok d) e go =
          let l = later ++ own_item m rules client doc c serial (Some n) ∷ [] in
          made-put n doc d c serial (undo_steps m rules client n bs l d (serial + 1)) e (go l d (serial + 1))

      from : (o : Option C) → ((l : List (Item C)) (d : Doc) (s : ℕ) → IsMade m rules client d s (undo_steps m rules client n bs l d s))
          → IsMade m rules client doc serial (put m rules client (tried m rules client o doc) n later doc serial (λ l d s. undo_steps m rules client n bs l d s))
      from None go = go later doc serial
      from (Some c) go = applied c (m.outcome rules c doc) refl go

  made-found : (n : Name) (o : Option (Item C × List (Item C))) (made : List (Item C)) (doc : Doc) (serial : ℕ) → IsMade m rules client doc serial (undo_found m rules client n o made doc serial)
  made-found n None made doc serial = made-none doc serial
  made-found n (Some p) made doc serial = made-steps n p.0.inverse (p.1 ++ made) doc serial

  -- the steps of an event
  pub made-event : (ns : List Name) (items : List (Item C)) (doc : Doc) (serial : ℕ) → IsMade m rules client doc serial (undo_event m rules client ns items doc serial)
  made-event [] items doc serial = made-none doc serial
  made-event (n ∷ ns) items doc serial =
      let w = undo_event m rules client ns items doc serial in
      made-then doc serial w (undo_found m rules client n (find n items) w.items w.doc w.serial) (made-event ns items doc serial) (made-found n (find n items) w.items w.doc w.serial)

  pub made-at : (ns : List Name) (items : List (Item C)) (doc : Doc) (serial : ℕ) (w : Undone Doc C) → w ≡ undo_event m rules client ns items doc serial → IsMade m rules client doc serial w
  made-at ns items doc serial w e = subst (IsMade m rules client doc serial) (sym e) (made-event ns items doc serial)
