-- Lemmas: the steps that an undo makes undo only the event's steps, and none of these twice.
use Rattle.std.specs.Prelude.{◌≡◌, ℕ, ◌≤◌, ◌⊎◌, Bool, true, false, if◌then◌else◌, List, [], ◌∷◌, ◌++◌, length, Option, Some, None, Result, Ok, Err, refl}
use Rattle.std.specs.List.{AllByRecursion as Each}
use Rattle.std.proofs.Common.{sym, ap, subst, ◌∙◌, ⊎_elim, inl, inr, arith}
use Rattle.std.proofs.lemmas.Bool.{and_parts, eqb-true}
use Rattle.std.proofs.lemmas.List.Elements.{recursion_from_All}
use Rattle.pm_map.specs.declared.step_map.Span.{Span}
use Rattle.pm_change.specs.declared.name.Name.{Name}
use Rattle.pm_change.specs.Changes.{Meaning, Laws, HasInverseMap}
use Rattle.pm_history.specs.declared.item.Item.{Item}
use Rattle.pm_history.specs.Items.{same_name, one_step}
use Rattle.pm_history.specs.Pairs.{paired}
use Rattle.pm_history.specs.Shows.{Shows, ShowsTo}
use Rattle.pm_history.specs.Tidy.{NoRangeUndoes, Once, Differ}
use Rattle.pm_history.specs.Undos.{find, where_applies, tried, put, undo_steps, undo_found, undo_event}
use Rattle.pm_history.proofs.Grows.{each-append, none-tied}
use Rattle.pm_history.proofs.Rebased.{no-range}

pub each-map : {A : Type 0} (P Q : A → Type 0) (xs : List A) → ((x : A) → P x → Q x) → Each P xs → Each Q xs
each-map P Q [] f h = tt
each-map P Q (x ∷ xs) f h = (f x h.0, each-map P Q xs f h.1)

pub same-is : (a b : Name) → same_name a b ≡ true → a ≡ b
same-is a b h =
    let p = and_parts _ _ h in
    ap (λ c. record { client = c; serial = a.serial }) (eqb-true a.client b.client p.0) ∙ ap (λ s. record { client = b.client; serial = s }) (eqb-true a.serial b.serial p.1)

module _ {C : Type 0} where
  pub none-both : (n : Option Name) (xs ys : List (Item C)) → NoRangeUndoes n xs → NoRangeUndoes n ys → NoRangeUndoes n (xs ++ ys)
  none-both n [] ys h k = k
  none-both n (x ∷ xs) ys h k = (h.0, none-both n xs ys h.1 k)

  -- where no step is undone by both
  pub once-both : (xs ys : List (Item C)) → Once xs → Once ys → ((n : Name) → NoRangeUndoes (Some n) xs ⊎ NoRangeUndoes (Some n) ys) → Once (xs ++ ys)
  once-both [] ys h k f = k
  once-both (x ∷ xs) ys h k f = (
    λ n t. ⊎_elim (λ (z : NoRangeUndoes (Some n) (x ∷ xs)). inl (z.0 t))
        (λ (z : NoRangeUndoes (Some n) ys). ⊎_elim (λ (r : x.map ≡ []). inl r) (λ (r : NoRangeUndoes (Some n) xs). inr (none-both (Some n) xs ys r z)) (h.0 n t)) (f n),
    once-both xs ys h.1 k (λ n. ⊎_elim (λ (z : NoRangeUndoes (Some n) (x ∷ xs)). inl z.1) (λ (z : NoRangeUndoes (Some n) ys). inr z) (f n)),
  )

  once-empties : (xs : List (Item C)) → Each (λ x. x.map ≡ []) xs → Once xs
  once-empties [] h = tt
  once-empties (x ∷ xs) h = ((λ n t. inl h.0), once-empties xs h.1)

  -- what was found, if anything
  abbrev WhereFound : (Item C → Type 0) → Option (Item C × List (Item C)) → Type 0
  WhereFound P None = Unit {0}
  WhereFound P (Some p) = P p.0

  find-each : (P : Item C → Type 0) (n : Name) (items : List (Item C)) → Each P items → WhereFound P (find n items)
  find-each P n [] h = tt
  find-each P n (i ∷ is) h = from (one_step (Some n) i.name) (find-each P n is h.1)
    where
      from : (t : Bool) → WhereFound P (find n is) → WhereFound P (if t then Some (i, is) else find n is)
      from true k = h.0
      from false k = k

module _ {Rules Doc Reason C : Type 0} (m : Meaning Rules Doc Reason C) (rules : Rules) where
  -- no change has a range, or there is one change alone
  abbrev FewRanges : List C → Type 0
  FewRanges bs = Each (λ b. m.step_map b ≡ []) bs ⊎ (length bs ≤ 1)

  few : (ranges : List Span) (bs : List C) → HasInverseMap m rules ranges bs → FewRanges bs
  few [] bs h = inl (recursion_from_All _ bs h)
  few (r ∷ rs) [] h = absurd h
  few (r ∷ rs) (b ∷ []) h = inr (omega arith)
  few (r ∷ rs) (b ∷ c ∷ cs) h = absurd h

  shows-few : Laws m → (doc end : Doc) (is : List (Item C)) → m.is_good rules doc → Shows m rules doc is end → Each (λ i. FewRanges i.inverse) is
  shows-few laws doc end [] good h = tt
  shows-few laws doc end (i ∷ is) good h = (
    ⊎_elim (λ (e : i.inverse ≡ m.inverse rules h.0 doc). subst FewRanges (sym e) (few (m.step_map h.0) (m.inverse rules h.0 doc) (laws.inverse_map rules h.0 doc h.1 good h.2)))
        (λ (e : i.inverse ≡ []). subst FewRanges (sym e) (inl tt)) h.4,
    shows-few laws h.1 end is (laws.good rules h.0 doc h.1 good h.2) h.5,
  )

module _ {Rules Doc Reason C : Type 0} (m : Meaning Rules Doc Reason C) (rules : Rules) (client : ℕ) where
  steps-ties : (P : Option Name → Type 0) (n : Name) (bs : List C) (later : List (Item C)) (doc : Doc) (serial : ℕ) → P (Some n)
      → Each (λ (i : Item C). P i.undoes) (undo_steps m rules client n bs later doc serial).items
  steps-ties P n [] later doc serial h = tt
  steps-ties P n (b ∷ bs) later doc serial h = from (tried m rules client (m.carry b (paired later)) doc) (λ l d s. steps-ties P n bs l d s h)
    where
      from : (o : Option (C × Doc)) → ((l : List (Item C)) (d : Doc) (s : ℕ) → Each (λ (i : Item C). P i.undoes) (undo_steps m rules client n bs l d s).items)
          → Each (λ (i : Item C). P i.undoes) (put m rules client o n later doc serial (λ l d s. undo_steps m rules client n bs l d s)).items
      from None go = go later doc serial
      from (Some p) go = (h, go _ _ _)

  found-ties : (P : Option Name → Type 0) (n : Name) (o : Option (Item C × List (Item C))) (made : List (Item C)) (doc : Doc) (serial : ℕ) → P (Some n)
      → Each (λ (i : Item C). P i.undoes) (undo_found m rules client n o made doc serial).items
  found-ties P n None made doc serial h = tt
  found-ties P n (Some p) made doc serial h = steps-ties P n p.0.inverse (p.1 ++ made) doc serial h

  -- each step made undoes one of the event's steps
  pub event-ties : (P : Option Name → Type 0) (ns : List Name) (items : List (Item C)) (doc : Doc) (serial : ℕ) → Each (λ n. P (Some n)) ns
      → Each (λ (i : Item C). P i.undoes) (undo_event m rules client ns items doc serial).items
  event-ties P [] items doc serial h = tt
  event-ties P (n ∷ ns) items doc serial h =
      let w = undo_event m rules client ns items doc serial in
      each-append (λ (i : Item C). P i.undoes) w.items (undo_found m rules client n (find n items) w.items w.doc w.serial).items
      (event-ties P ns items doc serial h.1) (found-ties P n (find n items) w.items w.doc w.serial h.0)

  -- a change without a range leads to steps without one
  steps-empty : Laws m → (n : Name) (bs : List C) (later : List (Item C)) (doc : Doc) (serial : ℕ) → Each (λ b. m.step_map b ≡ []) bs
      → Each (λ (i : Item C). i.map ≡ []) (undo_steps m rules client n bs later doc serial).items
  steps-empty laws n [] later doc serial h = tt
  steps-empty laws n (b ∷ bs) later doc serial h = from (m.carry b (paired later)) refl (λ l d s. steps-empty laws n bs l d s h.1)
    where
      applied : (c : C) (r : Result Doc Reason) → m.step_map c ≡ [] → ((l : List (Item C)) (d : Doc) (s : ℕ) → Each (λ (i : Item C). i.map ≡ []) (undo_steps m rules client n bs l d s).items)
          → Each (λ (i : Item C). i.map ≡ []) (put m rules client (where_applies m rules client r c) n later doc serial (λ l d s. undo_steps m rules client n bs l d s)).items
      applied c (Err x) e go = go later doc serial
      applied c (Ok d) e go = (e, go _ _ _)

      from : (o : Option C) → m.carry b (paired later) ≡ o → ((l : List (Item C)) (d : Doc) (s : ℕ) → Each (λ (i : Item C). i.map ≡ []) (undo_steps m rules client n bs l d s).items)
          → Each (λ (i : Item C). i.map ≡ []) (put m rules client (tried m rules client o doc) n later doc serial (λ l d s. undo_steps m rules client n bs l d s)).items
      from None e go = go later doc serial
      from (Some c) e go = applied c (m.outcome rules c doc) (no-range (m.step_map c) (m.step_map b) (laws.carried b c (paired later) e) h.0) go

  one-alone : (n : Name) (b : C) (later : List (Item C)) (doc : Doc) (serial : ℕ) → Once (undo_steps m rules client n (b ∷ []) later doc serial).items
  one-alone n b later doc serial = from (tried m rules client (m.carry b (paired later)) doc)
    where
      from : (o : Option (C × Doc)) → Once (put m rules client o n later doc serial (λ l d s. undo_steps m rules client n [] l d s)).items
      from None = tt
      from (Some p) = ((λ k t. inr tt), tt)

  steps-once : Laws m → (n : Name) (bs : List C) (later : List (Item C)) (doc : Doc) (serial : ℕ) → FewRanges m rules bs → Once (undo_steps m rules client n bs later doc serial).items
  steps-once laws n [] later doc serial h = tt
  steps-once laws n (b ∷ []) later doc serial h = one-alone n b later doc serial
  steps-once laws n (b ∷ c ∷ cs) later doc serial h =
      ⊎_elim (λ (e : Each (λ x. m.step_map x ≡ []) (b ∷ c ∷ cs)). once-empties _ (steps-empty laws n (b ∷ c ∷ cs) later doc serial e))
      (λ (l : length (b ∷ c ∷ cs) ≤ 1). absurd (omega (arith, l))) h

  found-once : Laws m → (n : Name) (o : Option (Item C × List (Item C))) (made : List (Item C)) (doc : Doc) (serial : ℕ) → WhereFound (λ i. FewRanges m rules i.inverse) o
      → Once (undo_found m rules client n o made doc serial).items
  found-once laws n None made doc serial h = tt
  found-once laws n (Some p) made doc serial h = steps-once laws n p.0.inverse (p.1 ++ made) doc serial h

  once-made : Laws m → (ns : List Name) (items : List (Item C)) (doc : Doc) (serial : ℕ) → Each (λ i. FewRanges m rules i.inverse) items → Differ ns
      → Once (undo_event m rules client ns items doc serial).items
  once-made laws [] items doc serial h d = tt
  once-made laws (n ∷ ns) items doc serial h d =
      let w = undo_event m rules client ns items doc serial in
      let v = undo_found m rules client n (find n items) w.items w.doc w.serial in
      once-both w.items v.items (once-made laws ns items doc serial h d.1) (found-once laws n (find n items) w.items w.doc w.serial (find-each (λ i. FewRanges m rules i.inverse) n items h))
      (λ k. from k w.items v.items (same_name k n) refl
      (λ z. none-tied k w.items (event-ties (λ o. one_step (Some k) o ≡ false) ns items doc serial z))
      (λ z. none-tied k v.items (found-ties (λ o. one_step (Some k) o ≡ false) n (find n items) w.items w.doc w.serial z)))
    where
      from : (k : Name) (xs ys : List (Item C)) (t : Bool) → same_name k n ≡ t → (Each (λ j. same_name k j ≡ false) ns → NoRangeUndoes (Some k) xs) → (same_name k n ≡ false → NoRangeUndoes (Some k) ys)
          → NoRangeUndoes (Some k) xs ⊎ NoRangeUndoes (Some k) ys
      from k xs ys true e f g = inl (f (subst (λ x. Each (λ j. same_name x j ≡ false) ns) (sym (same-is k n e)) d.0))
      from k xs ys false e f g = inr (g e)

  -- of the steps made no two with a range undo one step
  pub event-once : Laws m → (ns : List Name) (items : List (Item C)) (doc : Doc) (serial : ℕ) → ShowsTo m rules items doc → Differ ns
      → Once (undo_event m rules client ns items doc serial).items
  event-once laws ns items doc serial h d = once-made laws ns items doc serial (shows-few m rules laws h.0 doc items h.1 h.2) d
