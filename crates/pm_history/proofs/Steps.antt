-- One step of an undo, and the steps of an event one after another.
use Rattle.std.proofs.Common.{suc, get_or, Result, Ok, Err, inl, append_assoc, append-nil, ◌≡◌, ℕ, ◌+◌, ◌-◌, ◌<◌, ◌≤◌, List, [], ◌∷◌, ◌++◌, length, drop, Option, Some, None, refl, ap, sym, ◌∙◌, arith, subst}
use Rattle.std.proofs.Math.Seq.{drop-cons}
use Rattle.pm_change.specs.Changes.{Meaning, Laws}
use Rattle.pm_history.specs.declared.item.Item.{Item}
use Rattle.pm_change.specs.declared.name.Name.{Name}
use Rattle.pm_history.specs.declared.undoing.Undone.{Undone}
use Rattle.pm_history.specs.Pairs.{paired}
use Rattle.pm_history.specs.Shows.{Shows, ShowsTo}
use Rattle.pm_history.specs.Restores.{RestoresAll, IsOfWhole}
use Rattle.pm_history.specs.Tries.{MayUndo, first_of, item_from, put_one}
use Rattle.pm_history.specs.Made.{IsMade}
use Rattle.pm_history.proofs.Mades.{made-at}
use Rattle.pm_history.proofs.Agrees.{undo-restores, undo-remembered}
use Rattle.pm_history.proofs.Leading.{drop-next}
use Rattle.pm_history.specs.Undos.{undo_steps, undo_found, undo_event, find, put, own_item, where_applies, then_made, tried}
use Rattle.pm_history.proofs.Keeps.{shows-good, shows-append}
use Rattle.pm_history.proofs.Showing.{may-found, put-shows, put-then}

module _ {Rules Doc Reason C : Type 0} (m : Meaning Rules Doc Reason C) (rules : Rules) (laws : Laws m) where
  pub end-good : (bs : List C) (is : List (Item C)) (end : Doc) → MayUndo m rules bs is end → m.is_good rules end
  end-good bs is end h = shows-good m rules laws h.base end is h.good h.shows

module _ {Rules Doc Reason C : Type 0} (m : Meaning Rules Doc Reason C) (rules : Rules) (client : ℕ) where
  pub first-may : (all : List C) (b : C) (bs : List C) (is : List (Item C)) (end : Doc) → all ≡ b ∷ bs → MayUndo m rules all is end → MayUndo m rules (b ∷ []) is end
  first-may all b bs is end e h =
      let k = subst (λ x. MayUndo m rules x is end) e h in
      record { base = k.base; good = k.good; shows = k.shows; within = (k.within.0, tt) }

  abbrev pub after_one : Name → C → List (Item C) → Undone Doc C → Undone Doc C
  after_one n b later w = put_one m rules client (tried m rules client (m.carry b (paired (later ++ w.items))) w.doc) n w

  pub next-may : (all : List C) (n : Name) (b : C) (bs : List C) (later : List (Item C)) (w v : Undone Doc C) → all ≡ b ∷ bs → v ≡ after_one n b later w
      → MayUndo m rules all (later ++ w.items) w.doc → MayUndo m rules bs (later ++ v.items) v.doc
  next-may all n b bs later w v e f h =
      let k = subst (λ x. MayUndo m rules x (later ++ w.items) w.doc) e h in
      subst (λ (x : Undone Doc C). MayUndo m rules bs (later ++ x.items) x.doc) (sym f) (record {
        base = k.base;
        good = k.good;
        shows = put-shows m rules client k.base (m.carry b (paired (later ++ w.items))) n later w k.shows;
        within = k.within.1;
      })

  pub next-same : (all : List C) (n : Name) (b : C) (bs : List C) (later : List (Item C)) (w v : Undone Doc C) → all ≡ b ∷ bs → v ≡ after_one n b later w
      → then_made w (undo_steps m rules client n all (later ++ w.items) w.doc w.serial)
      ≡ then_made v (undo_steps m rules client n bs (later ++ v.items) v.doc v.serial)
  next-same all n b bs later w v e f =
      ap (λ x. then_made w (undo_steps m rules client n x (later ++ w.items) w.doc w.serial)) e
      ∙ put-then m rules client (tried m rules client (m.carry b (paired (later ++ w.items))) w.doc) n later w (λ l d s. undo_steps m rules client n bs l d s)
      ∙ ap (λ (x : Undone Doc C). then_made x (undo_steps m rules client n bs (later ++ x.items) x.doc x.serial)) (sym f)

-- the item at a place, and those after it
pub found-place : {C : Type 0} (n : Name) (items : List (Item C)) (k : ℕ) (i : Item C) (rest : List (Item C)) (o : Option ℕ) → find n items ≡ item_from items o → o ≡ Some k
    → i ≡ get_or items k i → k < length items → rest ≡ drop (k + 1) items → find n items ≡ Some (i, rest)
found-place n items k i rest o f s e l r = f ∙ ap (λ x. item_from items x) s ∙ ap first_of (drop-next items k i e l) ∙ ap (λ is. Some (i, is)) (sym r)

module _ {Rules Doc Reason C : Type 0} (m : Meaning Rules Doc Reason C) (rules : Rules) (client : ℕ) where
  pub may-at : Laws m → (n : Name) (items more : List (Item C)) (end : Doc) (i : Item C) (rest : List (Item C)) (bs : List C) → ShowsTo m rules (items ++ more) end
      → find n items ≡ Some (i, rest) → bs ≡ i.inverse → MayUndo m rules bs (rest ++ more) end
  may-at laws n items more end i rest bs h f e =
      subst (λ x. MayUndo m rules x (rest ++ more) end) (sym e) (may-found m rules laws n items more h.0 end h.1 h.2 i rest f)

  -- the steps that an undo makes are shown
  steps-show : (n : Name) (bs : List C) (later : List (Item C)) (doc : Doc) (serial : ℕ) (base : Doc) (all : List (Item C)) → Shows m rules base all doc
      → Shows m rules base (all ++ (undo_steps m rules client n bs later doc serial).items) (undo_steps m rules client n bs later doc serial).doc
  steps-show n [] later doc serial base all h = subst (λ is. Shows m rules base is doc) (sym (append-nil all)) h
  steps-show n (b ∷ bs) later doc serial base all h = from (m.carry b (paired later)) (λ l d s x k. steps-show n bs l d s base x k)
    where
      put_at : (c : C) (r : Result Doc Reason) → m.outcome rules c doc ≡ r
          → ((l : List (Item C)) (d : Doc) (s : ℕ) (x : List (Item C)) → Shows m rules base x d
          → Shows m rules base (x ++ (undo_steps m rules client n bs l d s).items) (undo_steps m rules client n bs l d s).doc)
          → Shows m rules base (all ++ (put m rules client (where_applies m rules client r c) n later doc serial (λ l d s. undo_steps m rules client n bs l d s)).items)
          (put m rules client (where_applies m rules client r c) n later doc serial (λ l d s. undo_steps m rules client n bs l d s)).doc
      put_at c (Err e) z k = k later doc serial all h
      put_at c (Ok d) z k =
          let i = own_item m rules client doc c serial (Some n) in
          subst (λ is. Shows m rules base is (undo_steps m rules client n bs (later ++ i ∷ []) d (serial + 1)).doc) (append_assoc all (i ∷ []) (undo_steps m rules client n bs (later ++ i ∷ []) d (serial + 1)).items)
          (k (later ++ i ∷ []) d (serial + 1) (all ++ i ∷ []) (shows-append m rules base doc d all (i ∷ []) h (c, d, z, refl, inl refl, refl)))

      from : (o : Option C)
          → ((l : List (Item C)) (d : Doc) (s : ℕ) (x : List (Item C)) → Shows m rules base x d
          → Shows m rules base (x ++ (undo_steps m rules client n bs l d s).items) (undo_steps m rules client n bs l d s).doc)
          → Shows m rules base (all ++ (put m rules client (tried m rules client o doc) n later doc serial (λ l d s. undo_steps m rules client n bs l d s)).items)
          (put m rules client (tried m rules client o doc) n later doc serial (λ l d s. undo_steps m rules client n bs l d s)).doc
      from None k = k later doc serial all h
      from (Some c) k = put_at c (m.outcome rules c doc) refl k

  found-shows : (n : Name) (o : Option (Item C × List (Item C))) (more : List (Item C)) (doc : Doc) (serial : ℕ) (base : Doc) (all : List (Item C)) → Shows m rules base all doc
      → Shows m rules base (all ++ (undo_found m rules client n o more doc serial).items) (undo_found m rules client n o more doc serial).doc
  found-shows n None more doc serial base all h = subst (λ is. Shows m rules base is doc) (sym (append-nil all)) h
  found-shows n (Some p) more doc serial base all h = steps-show n p.0.inverse (p.1 ++ more) doc serial base all h

  pub named-shows : (n : Name) (items : List (Item C)) (w v : Undone Doc C) → ShowsTo m rules (items ++ w.items) w.doc
      → v ≡ then_made w (undo_found m rules client n (find n items) w.items w.doc w.serial) → ShowsTo m rules (items ++ v.items) v.doc
  named-shows n items w v h e =
      let f = undo_found m rules client n (find n items) w.items w.doc w.serial in
      subst (λ (x : Undone Doc C). ShowsTo m rules (items ++ x.items) x.doc) (sym e) (
        h.0,
        h.1,
        subst (λ is. Shows m rules h.0 is f.doc) (append_assoc items w.items f.items)
            (found-shows n (find n items) w.items w.doc w.serial h.0 (items ++ w.items) h.2),
      )

  pub event-next : (n : Name) (ns all : List Name) (items : List (Item C)) (doc : Doc) (serial : ℕ) (w v : Undone Doc C) → all ≡ n ∷ ns
      → w ≡ undo_event m rules client ns items doc serial → v ≡ then_made w (undo_found m rules client n (find n items) w.items w.doc w.serial)
      → v ≡ undo_event m rules client all items doc serial
  event-next n ns all items doc serial w v a e f =
      f ∙ ap (λ (x : Undone Doc C). then_made x (undo_found m rules client n (find n items) x.items x.doc x.serial)) e
      ∙ ap (λ x. undo_event m rules client x items doc serial) (sym a)

pub drop-before : {A : Type 0} (xs : List A) (i : ℕ) (d : A) → 0 < i → i ≤ length xs → drop (i - 1) xs ≡ get_or xs (i - 1) d ∷ drop i xs
drop-before xs i d z l =
    let e : suc (i - 1) ≡ i = omega (arith, z) in
    drop-cons xs (i - 1) d (omega (arith, z, l)) ∙ ap (λ j. get_or xs (i - 1) d ∷ drop j xs) e

at-start : {Rules Doc Reason C : Type 0} (m : Meaning Rules Doc Reason C) (rules : Rules) (client : ℕ) (names : List Name) (items : List (Item C)) (doc : Doc) (serial : ℕ)
    → (i : ℕ) (w : Undone Doc C) → i ≤ 0 → w ≡ undo_event m rules client (drop i names) items doc serial → w ≡ undo_event m rules client names items doc serial
at-start m rules client names items doc serial i w z same =
    let e : i ≡ 0 = omega (arith, z) in
    same ∙ ap (λ k. undo_event m rules client (drop k names) items doc serial) e

pub event-end : {Rules Doc Reason C : Type 0} (m : Meaning Rules Doc Reason C) (rules : Rules) (client : ℕ) → Laws m → (names : List Name) (items : List (Item C)) (doc : Doc) (serial : ℕ)
    → (i : ℕ) (w : Undone Doc C) → i ≤ 0 → w ≡ undo_event m rules client (drop i names) items doc serial → RestoresAll m rules names items doc w
event-end {Doc = Doc} {C = C} m rules client laws names items doc serial i w z same =
    λ first steps before good h tidy free since.
    ap (λ (x : Undone Doc C). x.doc) (at-start m rules client names items doc serial i w z same)
    ∙ undo-restores m rules client laws names first steps items before doc serial good h tidy free since

pub event-whole : {Rules Doc Reason C : Type 0} (m : Meaning Rules Doc Reason C) (rules : Rules) (client : ℕ) (names : List Name) (items : List (Item C)) (doc : Doc) (serial : ℕ)
    → (i : ℕ) (w : Undone Doc C) → i ≤ 0 → w ≡ undo_event m rules client (drop i names) items doc serial → IsOfWhole m rules client names items doc serial w
event-whole m rules client names items doc serial i w z same =
    λ first steps h. at-start m rules client names items doc serial i w z same
    ∙ undo-remembered m rules client names names first steps items doc serial (λ P k. k) h

pub event-made : {Rules Doc Reason C : Type 0} (m : Meaning Rules Doc Reason C) (rules : Rules) (client : ℕ) (names : List Name) (items : List (Item C)) (doc : Doc) (serial : ℕ)
    → (i : ℕ) (w : Undone Doc C) → i ≤ 0 → w ≡ undo_event m rules client (drop i names) items doc serial → IsMade m rules client doc serial w
event-made m rules client names items doc serial i w z same =
    made-at m rules client names items doc serial w (at-start m rules client names items doc serial i w z same)
