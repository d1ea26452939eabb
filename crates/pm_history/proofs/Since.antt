-- Where nothing has changed since an event, undoing it gives the document before it.
use Rattle.std.specs.Prelude.{◌≡◌, ℕ, ◌==◌, Bool, true, false, if◌then◌else◌, List, [], ◌∷◌, ◌++◌, Option, Some, None, Ok, refl}
use Rattle.std.specs.List.{AllByRecursion as Each}
use Rattle.std.proofs.Common.{sym, ap, subst, ◌∙◌, append_assoc, ⊎_elim}
use Rattle.std.proofs.lemmas.Bool.{eq-eqb, eqb-true, and_parts, and_from, true≢false, cases_Bool}
use Rattle.pm_map.specs.Stills.{AreApart}
use Rattle.pm_change.specs.declared.name.Name.{Name}
use Rattle.pm_change.specs.Changes.{Meaning, Laws, fold}
use Rattle.pm_history.specs.declared.item.Item.{Item}
use Rattle.pm_history.specs.Items.{same_name, one_step}
use Rattle.pm_history.specs.Tidy.{NoRangeUndoes, NotNamed, NamesDiffer, Once, Differ, IsTidy}
use Rattle.pm_history.specs.Undos.{find, undo_event}
use Rattle.pm_history.specs.Timelines.{Step, changes_of, item_at, items_from, next_items}
use Rattle.pm_history.specs.Unchanged.{Reads, MayGoBack}
use Rattle.pm_history.proofs.Folding.{fold-split, fold-first, items-append, own-at, changes-append, some-same}
use Rattle.pm_history.proofs.Restores.{Turns, event-restored}
use Rattle.pm_history.proofs.Idles.{idle-still, idle-passes, once-front, once-back}

same-turned : (a b : Name) → same_name a b ≡ true → same_name b a ≡ true
same-turned a b h =
    let p = and_parts (a.client == b.client) (a.serial == b.serial) h in
    and_from _ _ (eq-eqb b.client a.client (sym (eqb-true a.client b.client p.0))) (eq-eqb b.serial a.serial (sym (eqb-true a.serial b.serial p.1)))

module _ {C : Type 0} where
  at-end : (P : Item C → Type 0) (xs : List (Item C)) (i : Item C) (rest : List (Item C)) → Each P (xs ++ i ∷ rest) → P i
  at-end P [] i rest h = h.0
  at-end P (x ∷ xs) i rest h = at-end P xs i rest h.1

  pub none-back : (n : Option Name) (xs ys : List (Item C)) → NoRangeUndoes n (xs ++ ys) → NoRangeUndoes n ys
  none-back n [] ys h = h
  none-back n (x ∷ xs) ys h = none-back n xs ys h.1

  found-at : (n : Name) (front : List (Item C)) (i : Item C) (later : List (Item C)) → i.name ≡ Some n → same_name n n ≡ true → NamesDiffer (front ++ i ∷ later)
      → find n (front ++ i ∷ later) ≡ Some (i, later)
  found-at n [] i later e s h = ap (λ o. if one_step (Some n) o then Some (i, later) else find n later) e ∙ ap (λ t. if t then Some (i, later) else find n later) s
  found-at n (x ∷ xs) i later e s h =
      ap (λ t. if t then Some (x, xs ++ i ∷ later) else find n (xs ++ i ∷ later)) (other x.name h.0) ∙ found-at n xs i later e s h.1
    where
      other : (o : Option Name) → NotNamed o (xs ++ i ∷ later) → one_step (Some n) o ≡ false
      other None h = refl
      other (Some k) h =
          let f : same_name k n ≡ false = ap (λ o. one_step (Some k) o) (sym e) ∙ at-end (λ j. one_step (Some k) j.name ≡ false) xs i later h in
          ⊎_elim (λ (t : same_name n k ≡ true). absurd (true≢false (sym (same-turned n k t) ∙ f))) (λ (t : same_name n k ≡ false). t) (cases_Bool (same_name n k))

module _ {Rules Doc Reason C : Type 0} (m : Meaning Rules Doc Reason C) (rules : Rules) (client : ℕ) (laws : Laws m) where
  -- the items show that nothing has changed since
  since : (items front : List (Item C)) (first : Bool) (doc end : Doc) (ns : List Name) (ss : List (Step C)) → m.is_good rules doc
      → fold m rules doc (changes_of ss) ≡ Some end → Reads m rules first doc ns ss → items ≡ front ++ items_from m rules doc ss
      → NamesDiffer items → Once (items_from m rules doc ss) → Differ ns → Each (λ n. NoRangeUndoes (Some n) (items_from m rules doc ss)) ns
      → Turns m rules items first doc ns (items_from m rules doc ss) end
  since items front first doc end [] ss good h u same d o differ none =
      (ap (λ xs. items_from m rules doc xs) u, some-same doc end (ap (λ xs. fold m rules doc (changes_of xs)) (sym u) ∙ h))
  since items front first doc end (n ∷ ns) ss good h u same d o differ none =
      let t = u.0 in
      let good_next = laws.good rules t.step.change doc t.next good t.applies in
      let k = fold-split m rules t.next end (changes_of t.idle) (changes_of t.rest)
      (ap (λ cs. fold m rules t.next cs) (sym (changes-append t.idle t.rest))
      ∙ sym (fold-first m rules doc t.next t.step.change (changes_of (t.idle ++ t.rest)) t.applies)
      ∙ ap (λ xs. fold m rules doc (changes_of xs)) (sym t.ss_is) ∙ h) in
      let still = idle-still m rules laws t.next t.idle t.is_idle k.0 good_next k.1 in
      let item = item_at m rules doc t.step in
      let idle = items_from m rules t.next t.idle in
      let rest = items_from m rules t.next t.rest in
      let whole : items_from m rules doc ss ≡ item ∷ (idle ++ rest) =
      ap (λ xs. items_from m rules doc xs) t.ss_is
      ∙ ap (λ r. item ∷ next_items m rules r (λ d. items_from m rules d (t.idle ++ t.rest))) t.applies
      ∙ ap (λ is. item ∷ is) (items-append m rules t.next k.0 t.idle t.rest k.1)
      ∙ ap (λ d. item ∷ (idle ++ items_from m rules d t.rest)) still in
      let once : Once (item ∷ (idle ++ rest)) = subst Once whole o in
      let at : items ≡ front ++ item ∷ (idle ++ rest) = same ∙ ap (λ is. front ++ is) whole in
      let own = own-at m rules doc t.step t.own in
      let named : item.name ≡ Some n = ap (λ (i : Item C). i.name) own ∙ ap (λ x. Some x) t.name_is in
      let self : same_name n n ≡ true = and_from _ _ (eq-eqb n.client n.client refl) (eq-eqb n.serial n.serial refl) in (
        record {
          change = t.step.change;
          next = t.next;
          item = item;
          idle = idle;
          rest = rest;
          applies = t.applies;
          back_applies = goes t.step.change doc t.next good t.applies t.goes_back;
          name_is = named;
          map_is = ap (λ (i : Item C). i.map) own;
          inverse_is = ap (λ (i : Item C). i.inverse) own;
          passes = idle-passes m rules laws t.next t.idle t.is_idle k.0 good_next k.1 (once-front idle rest once.1);
          none = none-back (Some n) (item ∷ []) (idle ++ rest) (subst (NoRangeUndoes (Some n)) whole none.0);
          fresh = differ.0;
          found = subst (λ is. find n is ≡ Some (item, idle ++ rest)) (sym at) (found-at n front item (idle ++ rest) named self (subst NamesDiffer at d));
          is_is = whole;
          apart = λ e. subst (λ rs. AreApart rs 0) (sym (ap (λ (i : Item C). i.map) own)) (t.apart e);
        },
        since items (front ++ item ∷ idle) false t.next end ns t.rest good_next (subst (λ d. fold m rules d (changes_of t.rest) ≡ Some end) still k.2) u.1
            (at ∙ sym (append_assoc front (item ∷ idle) rest)) d (once-back idle rest once.1) differ.1
            (each-map (λ k. NoRangeUndoes (Some k) (items_from m rules doc ss)) (λ k. NoRangeUndoes (Some k) rest)
            (λ k x. none-back (Some k) (item ∷ idle) rest (subst (NoRangeUndoes (Some k)) whole x)) ns none.1),
      )
    where
      goes : (c : C) (doc next : Doc) → m.is_good rules doc → m.outcome rules c doc ≡ Ok next → MayGoBack m rules c doc next
          → (back : Doc) × (fold m rules next (m.inverse rules c doc) ≡ Some back)
      goes c doc next good e may = ⊎_elim (λ (l : m.is_loose rules). laws.undoes rules c doc next l good e)
          (λ (h : (back : Doc) × (fold m rules next (m.inverse rules c doc) ≡ Some back)). h) may

      each-map : (P Q : Name → Type 0) → ((k : Name) → P k → Q k) → (ks : List Name) → Each P ks → Each Q ks
      each-map P Q f [] h = tt
      each-map P Q f (k ∷ ks) h = (f k h.0, each-map P Q f ks h.1)

  each-back : (front is : List (Item C)) (ns : List Name) → Each (λ n. NoRangeUndoes (Some n) (front ++ is)) ns → Each (λ n. NoRangeUndoes (Some n) is) ns
  each-back front is [] h = tt
  each-back front is (n ∷ ns) h = (none-back (Some n) front is h.0, each-back front is ns h.1)

  -- undoing an event gives the document before its first step, where nothing has changed since
  pub event-unchanged : (ns : List Name) (items : List (Item C)) (before end : Doc) (serial : ℕ) → m.is_good rules before → IsTidy items ns → Each (λ n. NoRangeUndoes (Some n) items) ns
      → (ss : List (Step C)) → fold m rules before (changes_of ss) ≡ Some end → Reads m rules true before ns ss
      → (front : List (Item C)) → items ≡ front ++ items_from m rules before ss → (undo_event m rules client ns items end serial).doc ≡ before
  event-unchanged ns items before end serial good tidy free ss folds reads front items_are =
      let is = items_from m rules before ss in
      let once : Once (front ++ is) = subst Once items_are tidy.once in
      let live : Each (λ n. NoRangeUndoes (Some n) (front ++ is)) ns = subst (λ xs. Each (λ n. NoRangeUndoes (Some n) xs) ns) items_are free in
      (event-restored m rules client laws items true before end ns is serial good
      (since items front true before end ns ss good folds reads items_are tidy.names_differ
      (once-back front is once) tidy.differ (each-back front is ns live))).0
