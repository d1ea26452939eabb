-- An idle stretch ends with the document that it began with, and moves nothing.
use Rattle.std.specs.Prelude.{◌≡◌, Bool, true, false, if◌then◌else◌, List, [], ◌∷◌, ◌++◌, Option, Some, None, Result, Ok, Err, refl}
use Rattle.std.specs.List.{AllByRecursion as Each}
use Rattle.std.proofs.Common.{sym, ap, subst, ◌∙◌, ⊎_elim, inl, inr}
use Rattle.std.proofs.lemmas.List.Elements.{recursion_from_All}
use Rattle.pm_map.specs.declared.step_map.Span.{Span}
use Rattle.pm_change.specs.Changes.{Meaning, Laws, fold, HasInverseMap}
use Rattle.pm_change.proofs.Folds.{fold-append}
use Rattle.pm_history.specs.declared.item.Item.{Item}
use Rattle.pm_change.specs.declared.name.Name.{Name}
use Rattle.pm_history.specs.Items.{one_step}
use Rattle.pm_history.specs.Tidy.{NoRangeUndoes, Once}
use Rattle.pm_history.specs.Timelines.{Step, changes_of, Ties, item_at, next_items, items_from, Idle, nothing, both, undone}
use Rattle.pm_history.proofs.Passes.{NoneOver, MoveBack, IsEmpty, Passes, passes-both, passes-empties, passes-undone}
use Rattle.pm_history.proofs.Folding.{changes-append, fold-first, fold-split, items-append, own-at, next-none, some-same}
use Rattle.pm_history.proofs.Restores.{same-self, not-empty}

module _ {C : Type 0} where
  pub none-front : (n : Option Name) (xs ys : List (Item C)) → NoRangeUndoes n (xs ++ ys) → NoRangeUndoes n xs
  none-front n [] ys h = tt
  none-front n (x ∷ xs) ys h = (h.0, none-front n xs ys h.1)

  none-at : (n : Option Name) (xs : List (Item C)) (u : Item C) (rest : List (Item C)) → NoRangeUndoes n (xs ++ u ∷ rest) → one_step n u.undoes ≡ true → u.map ≡ []
  none-at n [] u rest h = h.0
  none-at n (x ∷ xs) u rest h = none-at n xs u rest h.1

  pub once-front : (xs ys : List (Item C)) → Once (xs ++ ys) → Once xs
  once-front [] ys h = tt
  once-front (x ∷ xs) ys h = (
    λ n e. ⊎_elim (λ (z : x.map ≡ []). inl z) (λ (z : NoRangeUndoes (Some n) (xs ++ ys)). inr (none-front (Some n) xs ys z)) (h.0 n e),
    once-front xs ys h.1,
  )

  pub once-back : (xs ys : List (Item C)) → Once (xs ++ ys) → Once ys
  once-back [] ys h = h
  once-back (x ∷ xs) ys h = once-back xs ys h.1

  -- before the item that undoes a step, no other with a range does
  once-none : (n : Name) (xs : List (Item C)) (u : Item C) (rest : List (Item C)) → Once (xs ++ u ∷ rest) → one_step (Some n) u.undoes ≡ true → (u.map ≡ [] → ⊥)
      → NoRangeUndoes (Some n) xs
  once-none n [] u rest h e f = tt
  once-none n (x ∷ xs) u rest h e f = (
    λ t. ⊎_elim (λ (z : x.map ≡ []). z) (λ (z : NoRangeUndoes (Some n) (xs ++ u ∷ rest)). absurd (f (none-at (Some n) xs u rest z e))) (h.0 n t),
    once-none n xs u rest h.1 e f,
  )

  none-from : (n : Name) (map : List Span) (xs us : List (Item C)) → MoveBack (Some n) map us → Once (xs ++ us) → NoneOver map (Some n) xs
  none-from n [] xs us h o = tt
  none-from n (r ∷ rs) xs [] h o = absurd h
  none-from n (r ∷ rs) xs (u ∷ v ∷ us) h o = absurd h
  none-from n (r ∷ rs) xs (u ∷ []) h o = once-none n xs u [] o h.1 (λ z. not-empty _ _ (sym h.0 ∙ z))

module _ {Rules Doc Reason C : Type 0} (m : Meaning Rules Doc Reason C) (rules : Rules) where
  map-at : (doc : Doc) (s : Step C) → (item_at m rules doc s).map ≡ m.step_map s.change
  map-at doc s = from s.own
    where
      from : (t : Bool) → (if◌then◌else◌ {A = Item C} t (record { name = Some s.name; map = m.step_map s.change; inverse = m.inverse rules s.change doc; undoes = s.undoes })
          (record { name = None; map = m.step_map s.change; inverse = []; undoes = None })).map ≡ m.step_map s.change
      from true = refl
      from false = refl

  empties : (doc : Doc) (us : List (Step C)) → Each (λ b. m.step_map b ≡ []) (changes_of us) → Each IsEmpty (items_from m rules doc us)
  empties doc [] h = tt
  empties doc (u ∷ us) h = (map-at doc u ∙ h.0, from (m.outcome rules u.change doc) (λ d. empties d us h.1))
    where
      from : (r : Result Doc Reason) → ((d : Doc) → Each IsEmpty (items_from m rules d us)) → Each IsEmpty (next_items m rules r (λ d. items_from m rules d us))
      from (Ok d) go = go d
      from (Err e) go = tt

  -- the items of a step's inverse
  back-of : (n : Name) (map : List Span) (doc : Doc) (us : List (Step C)) → HasInverseMap m rules map (changes_of us) → Each (Ties n) us
      → MoveBack (Some n) map (items_from m rules doc us)
  back-of n [] doc us h t = empties doc us (recursion_from_All _ (changes_of us) h)
  back-of n (r ∷ rs) doc [] h t = absurd h
  back-of n (r ∷ rs) doc (u ∷ v ∷ us) h t = absurd h
  back-of n (r ∷ rs) doc (u ∷ []) h t =
      let e : item_at m rules doc u ≡ record { name = Some u.name; map = m.step_map u.change; inverse = m.inverse rules u.change doc; undoes = u.undoes } = own-at m rules doc u t.0.0 in
      subst (λ is. MoveBack (Some n) (r ∷ rs) (item_at m rules doc u ∷ is)) (sym (next-none m rules (m.outcome rules u.change doc)))
      (map-at doc u ∙ h, ap (λ (i : Item C). one_step (Some n) i.undoes) e ∙ ap (λ o. one_step (Some n) o) t.0.1 ∙ same-self n)

  -- an idle stretch ends with the document that it began with
  pub idle-still : Laws m → (doc : Doc) (ss : List (Step C)) → Idle m rules doc ss → (end : Doc) → m.is_good rules doc
      → fold m rules doc (changes_of ss) ≡ Some end → end ≡ doc
  idle-still laws doc ss (nothing doc') end good h = sym (some-same _ end h)
  idle-still laws doc ss (both doc' mid xs ys x e y) end good h =
      let k : fold m rules mid (changes_of ys) ≡ Some end =
      sym (ap (λ cs. fold m rules doc' cs) (changes-append xs ys) ∙ fold-append m rules doc' mid (changes_of xs) (changes_of ys) e) ∙ h in
      let same = idle-still laws doc' xs x mid good e in
      idle-still laws mid ys y end (subst (m.is_good rules) (sym same) good) k ∙ same
  idle-still laws doc ss (undone doc' next s xs us own e apart x inv ties) end good h =
      let k = fold-split m rules next end (changes_of xs) (changes_of us) (ap (λ cs. fold m rules next cs) (sym (changes-append xs us)) ∙ sym (fold-first m rules doc' next s.change (changes_of (xs ++ us)) e) ∙ h) in
      let same = idle-still laws next xs x k.0 (laws.good rules s.change doc' next good e) k.1 in
      laws.restores rules s.change doc' next end good e
      (ap (λ cs. fold m rules next cs) (sym inv) ∙ ap (λ d. fold m rules d (changes_of us)) (sym same) ∙ k.2)

  -- and moves nothing
  pub idle-passes : Laws m → (doc : Doc) (ss : List (Step C)) → Idle m rules doc ss → (end : Doc) → m.is_good rules doc
      → fold m rules doc (changes_of ss) ≡ Some end → Once (items_from m rules doc ss) → Passes (items_from m rules doc ss)
  idle-passes laws doc ss (nothing doc') end good h o = passes-empties [] tt
  idle-passes laws doc ss (both doc' mid xs ys x e y) end good h o =
      let k : fold m rules mid (changes_of ys) ≡ Some end =
      sym (ap (λ cs. fold m rules doc' cs) (changes-append xs ys) ∙ fold-append m rules doc' mid (changes_of xs) (changes_of ys) e) ∙ h in
      let same = idle-still laws doc' xs x mid good e in
      let items = items-append m rules doc' mid xs ys e in
      let once : Once (items_from m rules doc' xs ++ items_from m rules mid ys) = subst Once items o in
      subst Passes (sym items) (passes-both (items_from m rules doc' xs) (items_from m rules mid ys)
      (idle-passes laws doc' xs x mid good e (once-front (items_from m rules doc' xs) (items_from m rules mid ys) once))
      (idle-passes laws mid ys y end (subst (m.is_good rules) (sym same) good) k (once-back (items_from m rules doc' xs) (items_from m rules mid ys) once)))
  idle-passes laws doc ss (undone doc' next s xs us own e apart x inv ties) end good h o =
      let good_next = laws.good rules s.change doc' next good e in
      let k = fold-split m rules next end (changes_of xs) (changes_of us) (ap (λ cs. fold m rules next cs) (sym (changes-append xs us)) ∙ sym (fold-first m rules doc' next s.change (changes_of (xs ++ us)) e) ∙ h) in
      let same = idle-still laws next xs x k.0 good_next k.1 in
      let item = item_at m rules doc' s in
      let front = items_from m rules next xs in
      let back = items_from m rules k.0 us in
      let items : items_from m rules doc' (s ∷ (xs ++ us)) ≡ item ∷ (front ++ back) =
      ap (λ r. item ∷ next_items m rules r (λ d. items_from m rules d (xs ++ us))) e ∙ ap (λ is. item ∷ is) (items-append m rules next k.0 xs us k.1) in
      let once : Once (item ∷ (front ++ back)) = subst Once items o in
      let moves : MoveBack (Some s.name) (m.step_map s.change) back =
      back-of s.name (m.step_map s.change) k.0 us (subst (λ cs. HasInverseMap m rules (m.step_map s.change) cs) (sym inv) (laws.inverse_map rules s.change doc' next good e)) ties in
      let whole : Passes (record { name = Some s.name; map = m.step_map s.change; inverse = m.inverse rules s.change doc'; undoes = s.undoes } ∷ (front ++ back)) =
      passes-undone (Some s.name) (m.step_map s.change) front back apart
      (idle-passes laws next xs x k.0 good_next k.1 (once-front front back once.1))
      (none-from s.name (m.step_map s.change) front back moves once.1) moves in
      subst Passes (ap (λ i. i ∷ (front ++ back)) (sym (own-at m rules doc' s own)) ∙ sym items) whole
