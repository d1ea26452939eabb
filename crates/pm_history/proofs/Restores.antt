-- An undo of an event, where nothing has changed since, restores the document before it.
use Rattle.std.specs.Prelude.{◌≡◌, ℕ, ◌+◌, ◌⊎◌, Bool, true, false, List, [], ◌∷◌, ◌++◌, Option, Some, None, Ok, refl}
use Rattle.std.specs.List.{AllByRecursion as Each}
use Rattle.std.proofs.Common.{sym, ap, subst, ◌∙◌, append_assoc, append-nil, ⊎_elim, inl, inr}
use Rattle.std.proofs.lemmas.Bool.{eq-eqb, true≢false, and_from}
use Rattle.std.proofs.lemmas.List.Elements.{recursion_from_All}
use Rattle.pm_map.specs.declared.step_map.Span.{Span}
use Rattle.pm_map.specs.declared.step_map.Moved.{Moved}
use Rattle.pm_map.specs.Moves.{kept_at, inverted_ranges}
use Rattle.pm_map.specs.Through.{through_from}
use Rattle.pm_map.specs.Stills.{MovesNothing, AreApart}
use Rattle.pm_change.specs.Changes.{Meaning, Laws, fold, HasInverseMap}
use Rattle.pm_change.proofs.Folds.{fold-cons}
use Rattle.pm_history.specs.declared.item.Item.{Item}
use Rattle.pm_change.specs.declared.name.Name.{Name}
use Rattle.pm_history.specs.Items.{same_name}
use Rattle.pm_history.specs.Pairs.{paired}
use Rattle.pm_history.specs.Tidy.{NoRangeUndoes}
use Rattle.pm_history.proofs.Passes.{NoneOver, MoveBack, IsEmpty, Passes, passes-both, passes-empty, passes-empties, passes-undone}
use Rattle.pm_history.specs.declared.undoing.Undone.{Undone}
use Rattle.pm_history.proofs.Folding.{some-same}
use Rattle.pm_history.specs.Undos.{find, none_made, own_item, where_applies, tried, put, undo_steps, undo_found, undo_event}

module _ {Rules Doc Reason C : Type 0} (m : Meaning Rules Doc Reason C) (rules : Rules) where
  -- how a step of an event stands among the items: nothing after it, up to the event's next step, moves anything
  pub record Turn (items : List (Item C)) (first : Bool) (doc : Doc) (n : Name) (ns : List Name) (is : List (Item C)) : Type 0 where
    pub change : C
    pub next : Doc
    pub item : Item C
    pub idle : List (Item C)
    pub rest : List (Item C)
    pub applies : m.outcome rules change doc ≡ Ok next
    pub back_applies : (back : Doc) × (fold m rules next (m.inverse rules change doc) ≡ Some back)
    pub name_is : item.name ≡ Some n
    pub map_is : item.map ≡ m.step_map change
    pub inverse_is : item.inverse ≡ m.inverse rules change doc
    pub passes : Passes idle
    pub none : NoRangeUndoes (Some n) (idle ++ rest)
    pub fresh : Each (λ k. same_name n k ≡ false) ns
    pub found : find n items ≡ Some (item, idle ++ rest)
    pub is_is : is ≡ item ∷ (idle ++ rest)
    pub apart : first ≡ false → AreApart item.map 0

  abbrev pub Turns : List (Item C) → Bool → Doc → List Name → List (Item C) → Doc → Type 0
  Turns items first doc [] is end = (is ≡ []) × (doc ≡ end)
  Turns items first doc (n ∷ ns) is end = (t : Turn items first doc n ns is) × Turns items false t.next ns t.rest end

moved-same : (a b : Moved) → a.pos ≡ b.pos → a.deleted ≡ b.deleted → a.across ≡ b.across → a.after ≡ b.after → a.recover ≡ b.recover → a ≡ b
moved-same a b p d c f r =
    ap (λ x. record { pos = x; deleted = a.deleted; across = a.across; after = a.after; recover = a.recover }) p
    ∙ ap (λ x. record { pos = b.pos; deleted = x; across = a.across; after = a.after; recover = a.recover }) d
    ∙ ap (λ x. record { pos = b.pos; deleted = b.deleted; across = x; after = a.after; recover = a.recover }) c
    ∙ ap (λ x. record { pos = b.pos; deleted = b.deleted; across = b.across; after = x; recover = a.recover }) f
    ∙ ap (λ x. record { pos = b.pos; deleted = b.deleted; across = b.across; after = b.after; recover = x }) r

pub moves-nothing : {C : Type 0} (is : List (Item C)) → Passes is → MovesNothing (paired is)
moves-nothing is f =
    let at = λ (b : Bool) (p : ℕ). f [] b (kept_at p) refl in
    let whole = λ (b : Bool) (p : ℕ). ap (λ l. through_from (paired l) 0 b (kept_at p)) (sym (append-nil is)) ∙ (at b p).2 in
    record {
      ahead = λ p. whole false p ∙ moved-same _ _ (at false p).1.pos (at false p).1.deleted (at false p).1.across ((at false p).1.after refl) (at false p).1.none;
      back = λ p. ap (λ (x : Moved). x.pos) (whole true p) ∙ (at true p).1.pos;
      back_deleted = λ p. ap (λ (x : Moved). x.deleted) (whole true p) ∙ (at true p).1.deleted;
      back_across = λ p. ap (λ (x : Moved). x.across) (whole true p) ∙ (at true p).1.across;
    }

pub same-self : (n : Name) → same_name n n ≡ true
same-self n = and_from _ _ (eq-eqb n.client n.client refl) (eq-eqb n.serial n.serial refl)

pub not-empty : {A : Type 0} (a : A) (xs : List A) → (a ∷ xs) ≡ [] → ⊥
not-empty a xs e = cc

module _ {Rules Doc Reason C : Type 0} (m : Meaning Rules Doc Reason C) (rules : Rules) (client : ℕ) (laws : Laws m) where
  -- the next step of a stored inverse, over maps that move nothing: it is made, or is lost and would change nothing
  next-step : (b : C) (n : ℕ) (later : List (Item C)) (doc next : Doc) → m.is_within b n → Passes later → m.is_good rules doc → m.outcome rules b doc ≡ Ok next
      → (tried m rules client (m.carry b (paired later)) doc ≡ Some (b, next))
      ⊎ ((tried m rules client (m.carry b (paired later)) doc ≡ None) × (m.step_map b ≡ []) × (next ≡ doc))
  next-step b n later doc next w f good e =
      ⊎_elim
      (λ (some : m.carry b (paired later) ≡ Some b). inl (ap (λ o. tried m rules client o doc) some ∙ ap (λ r. where_applies m rules client r b) e))
      (λ lost. inr (ap (λ o. tried m rules client o doc) lost.0, lost.1, lost.2 rules doc next good e))
      (laws.still b n (paired later) w (moves-nothing later f))

  -- inverse steps without a range
  empty-steps : (n : Name) (size : ℕ) (bs : List C) (later : List (Item C)) (doc back : Doc) (serial : ℕ) → Each (λ b. m.is_within b size) bs → Each (λ b. m.step_map b ≡ []) bs → Passes later
      → m.is_good rules doc → fold m rules doc bs ≡ Some back
      → ((undo_steps m rules client n bs later doc serial).doc ≡ back) × Each IsEmpty (undo_steps m rules client n bs later doc serial).items
  empty-steps n size [] later doc back serial w h f good e = (some-same doc back e, tt)
  empty-steps n size (b ∷ bs) later doc back serial w h f good e =
      let c = fold-cons m rules doc back b bs e in
      let go = λ (l : List (Item C)) (d : Doc) (s : ℕ). undo_steps m rules client n bs l d s in
      ⊎_elim
      (λ (t : tried m rules client (m.carry b (paired later)) doc ≡ Some (b, c.0)).
      let i = own_item m rules client doc b serial (Some n) in
      let x = empty-steps n size bs (later ++ i ∷ []) c.0 back (serial + 1) w.1 h.1 (passes-both later (i ∷ []) f (passes-empty i [] h.0 (passes-empties [] tt)))
      (laws.good rules b doc c.0 good c.1) c.2 in
      subst (λ o. ((put m rules client o n later doc serial go).doc ≡ back) × Each IsEmpty (put m rules client o n later doc serial go).items) (sym t) (x.0, (h.0, x.1)))
      (λ (t : (tried m rules client (m.carry b (paired later)) doc ≡ None) × (m.step_map b ≡ []) × (c.0 ≡ doc)).
      let x = empty-steps n size bs later doc back serial w.1 h.1 f good (subst (λ d. fold m rules d bs ≡ Some back) t.2 c.2) in
      subst (λ o. ((put m rules client o n later doc serial go).doc ≡ back) × Each IsEmpty (put m rules client o n later doc serial go).items) (sym t.0) x)
      (next-step b size later doc c.0 w.0 f good c.1)

  -- one inverse step with a range
  one-step : (n : Name) (size : ℕ) (b : C) (r : Span) (rs : List Span) (later : List (Item C)) (doc back : Doc) (serial : ℕ)
      → m.is_within b size → m.step_map b ≡ inverted_ranges (r ∷ rs) → Passes later → m.is_good rules doc → fold m rules doc (b ∷ []) ≡ Some back
      → ((undo_steps m rules client n (b ∷ []) later doc serial).doc ≡ back) × MoveBack (Some n) (r ∷ rs) (undo_steps m rules client n (b ∷ []) later doc serial).items
  one-step n size b r rs later doc back serial w h f good e =
      let c = fold-cons m rules doc back b [] e in
      let go = λ (l : List (Item C)) (d : Doc) (s : ℕ). none_made d s in
      ⊎_elim
      (λ (t : tried m rules client (m.carry b (paired later)) doc ≡ Some (b, c.0)).
      subst (λ o. ((put m rules client o n later doc serial go).doc ≡ back) × MoveBack (Some n) (r ∷ rs) (put m rules client o n later doc serial go).items) (sym t)
      (some-same c.0 back c.2, (h, same-self n)))
      (λ (t : (tried m rules client (m.carry b (paired later)) doc ≡ None) × (m.step_map b ≡ []) × (c.0 ≡ doc)). absurd (not-empty _ _ (sym h ∙ t.1)))
      (next-step b size later doc c.0 w f good c.1)

  inverse-steps : (n : Name) (size : ℕ) (map : List Span) (bs : List C) (later : List (Item C)) (doc back : Doc) (serial : ℕ)
      → Each (λ b. m.is_within b size) bs → HasInverseMap m rules map bs → Passes later → m.is_good rules doc → fold m rules doc bs ≡ Some back
      → ((undo_steps m rules client n bs later doc serial).doc ≡ back) × MoveBack (Some n) map (undo_steps m rules client n bs later doc serial).items
  inverse-steps n size [] bs later doc back serial w h f good e = empty-steps n size bs later doc back serial w (recursion_from_All _ bs h) f good e
  inverse-steps n size (r ∷ rs) [] later doc back serial w h f good e = absurd h
  inverse-steps n size (r ∷ rs) (b ∷ []) later doc back serial w h f good e = one-step n size b r rs later doc back serial w.0 h f good e
  inverse-steps n size (r ∷ rs) (b ∷ c ∷ cs) later doc back serial w h f good e = absurd h

  -- a step's stored inverse, over maps that move nothing, gives the document before the step
  pub step-restored : (n : Name) (c : C) (later : List (Item C)) (doc next back : Doc) (serial : ℕ) → Passes later → m.is_good rules doc
      → m.outcome rules c doc ≡ Ok next → fold m rules next (m.inverse rules c doc) ≡ Some back
      → ((undo_steps m rules client n (m.inverse rules c doc) later next serial).doc ≡ doc)
      × MoveBack (Some n) (m.step_map c) (undo_steps m rules client n (m.inverse rules c doc) later next serial).items
  step-restored n c later doc next back serial f good e t =
      let x = inverse-steps n (m.size next) (m.step_map c) (m.inverse rules c doc) later next back serial
      (recursion_from_All _ (m.inverse rules c doc) (laws.inverse_within rules c doc next good e)) (laws.inverse_map rules c doc next good e) f
      (laws.good rules c doc next good e) t in
      (x.0 ∙ laws.restores rules c doc next back good e t, x.1)

  none-append : (n : Option Name) (xs ys : List (Item C)) → NoRangeUndoes n xs → NoRangeUndoes n ys → NoRangeUndoes n (xs ++ ys)
  none-append n [] ys h k = k
  none-append n (x ∷ xs) ys h k = (h.0, none-append n xs ys h.1 k)

  -- steps made to undo one step undo no other
  steps-other : (n k : Name) (bs : List C) (later : List (Item C)) (doc : Doc) (serial : ℕ) → same_name n k ≡ false
      → NoRangeUndoes (Some n) (undo_steps m rules client k bs later doc serial).items
  steps-other n k [] later doc serial e = tt
  steps-other n k (b ∷ bs) later doc serial e = from (tried m rules client (m.carry b (paired later)) doc) (λ l d s. steps-other n k bs l d s e)
    where
      from : (o : Option (C × Doc)) → ((l : List (Item C)) (d : Doc) (s : ℕ) → NoRangeUndoes (Some n) (undo_steps m rules client k bs l d s).items)
          → NoRangeUndoes (Some n) (put m rules client o k later doc serial (λ l d s. undo_steps m rules client k bs l d s)).items
      from None go = go later doc serial
      from (Some p) go = (λ t. absurd (true≢false (sym t ∙ e)), go _ _ _)

  event-other : (n : Name) (ns : List Name) (items : List (Item C)) (doc : Doc) (serial : ℕ) → Each (λ k. same_name n k ≡ false) ns
      → NoRangeUndoes (Some n) (undo_event m rules client ns items doc serial).items
  event-other n [] items doc serial h = tt
  event-other n (k ∷ ns) items doc serial h =
      let w = undo_event m rules client ns items doc serial in
      none-append (Some n) w.items _ (event-other n ns items doc serial h.1) (from (find k items) w.items w.doc w.serial)
    where
      from : (o : Option (Item C × List (Item C))) (more : List (Item C)) (d : Doc) (s : ℕ) → NoRangeUndoes (Some n) (undo_found m rules client k o more d s).items
      from None more d s = tt
      from (Some p) more d s = steps-other n k p.0.inverse (p.1 ++ more) d s h.0

  none-over : (map : List Span) (n : Option Name) (is : List (Item C)) → NoRangeUndoes n is → NoneOver map n is
  none-over [] n is h = tt
  none-over (r ∷ rs) n is h = h

  -- undoing an event for which nothing has changed since
  pub event-restored : (items : List (Item C)) (first : Bool) (doc end : Doc) (ns : List Name) (is : List (Item C)) (serial : ℕ)
      → m.is_good rules doc → Turns m rules items first doc ns is end
      → ((undo_event m rules client ns items end serial).doc ≡ doc)
      × (first ≡ false → Passes (is ++ (undo_event m rules client ns items end serial).items))
  event-restored items first doc end [] is serial good h =
      (sym h.1, λ _. subst (λ xs. Passes (xs ++ [])) (sym h.0) (passes-empties [] tt))
  event-restored items first doc end (n ∷ ns) is serial good h =
      let t = h.0 in
      let w = undo_event m rules client ns items end serial in
      let x = event-restored items false t.next end ns t.rest serial (laws.good rules t.change doc t.next good t.applies) h.1 in
      let later = (t.idle ++ t.rest) ++ w.items in
      let passes : Passes later = subst Passes (sym (append_assoc t.idle t.rest w.items)) (passes-both t.idle (t.rest ++ w.items) t.passes (x.1 refl)) in
      let v = undo_steps m rules client n (m.inverse rules t.change doc) later t.next w.serial in
      let same : undo_found m rules client n (find n items) w.items w.doc w.serial ≡ v =
      ap (λ o. undo_found m rules client n o w.items w.doc w.serial) t.found
      ∙ ap (λ bs. undo_steps m rules client n bs later w.doc w.serial) t.inverse_is
      ∙ ap (λ d. undo_steps m rules client n (m.inverse rules t.change doc) later d w.serial) x.0 in
      let y = step-restored n t.change later doc t.next t.back_applies.0 w.serial passes good t.applies t.back_applies.1 in (
        ap (λ (z : Undone Doc C). z.doc) same ∙ y.0,
        λ e.
            let back : MoveBack t.item.name t.item.map v.items = subst (λ o. MoveBack o t.item.map v.items) (sym t.name_is) (subst (λ map. MoveBack (Some n) map v.items) (sym t.map_is) y.1) in
            let none : NoRangeUndoes t.item.name later = subst (λ o. NoRangeUndoes o later) (sym t.name_is)
            (none-append (Some n) (t.idle ++ t.rest) w.items t.none (event-other n ns items end serial t.fresh)) in
            let whole : Passes (t.item ∷ (later ++ v.items)) = passes-undone t.item.name t.item.map later v.items (t.apart e) passes (none-over t.item.map t.item.name later none) back in
            subst Passes (ap (λ (z : Undone Doc C). (t.item ∷ (t.idle ++ t.rest)) ++ (w.items ++ z.items)) (sym same) ∙ ap (λ l. l ++ (undo_event m rules client (n ∷ ns) items end serial).items) (sym t.is_is))
            (subst Passes (ap (λ l. t.item ∷ l) (append_assoc (t.idle ++ t.rest) w.items v.items)) whole),
      )
