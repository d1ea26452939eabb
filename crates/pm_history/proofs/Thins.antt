-- Lemmas: a timeline some of whose last steps were rebased, and others dropped.
use Rattle.std.specs.Prelude.{◌≡◌, ℕ, Bool, true, false, if◌then◌else◌, List, [], ◌∷◌, ◌++◌, Option, Some, None, refl}
use Rattle.std.specs.List.{AllByRecursion as Each}
use Rattle.std.proofs.Common.{sym, ap, subst, ◌∙◌, ⊎_elim, inl, inr}
use Rattle.std.proofs.lemmas.Bool.{true≢false}
use Rattle.pm_change.specs.declared.name.Name.{Name}
use Rattle.pm_map.specs.declared.step_map.Span.{Span}
use Rattle.pm_history.specs.declared.item.Item.{Item}
use Rattle.pm_history.specs.declared.branch.Event.{Event}
use Rattle.pm_history.specs.declared.branches.Branches.{Branches}
use Rattle.pm_history.specs.Items.{same_name, one_step}
use Rattle.pm_history.specs.Histories.{is_dropped, still_named, without_dropped, last_items, rebased}
use Rattle.pm_history.specs.Tidy.{NotNamed, NamesDiffer, NoneUndoes, NoRangeUndoes, Once, Differ, IsTidy}
use Rattle.pm_history.specs.Remembers.{names_of, live_names}
use Rattle.pm_history.specs.Standing.{IsDrawn, HasDrawn}

-- The second list comes from the first: some items are lost, foreign ones come in between, and each other one has the name
-- and the tie of the one that it comes from, and no range where that one has none.
pub data ComesFrom {C : Type 0} : List (Item C) → List (Item C) → Type 0 where
  nothing : ComesFrom [] []
  lost : (x : Item C) (xs ys : List (Item C)) → ComesFrom xs ys → ComesFrom (x ∷ xs) ys
  foreign : (y : Item C) (xs ys : List (Item C)) → y.name ≡ None → y.undoes ≡ None → ComesFrom xs ys → ComesFrom xs (y ∷ ys)
  held : (x y : Item C) (xs ys : List (Item C)) → y.name ≡ x.name → y.undoes ≡ x.undoes → (x.map ≡ [] → y.map ≡ []) → ComesFrom xs ys → ComesFrom (x ∷ xs) (y ∷ ys)

module _ {C : Type 0} where
  pub comes-same : (front xs ys : List (Item C)) → ComesFrom xs ys → ComesFrom (front ++ xs) (front ++ ys)
  comes-same [] xs ys h = h
  comes-same (i ∷ front) xs ys h = held i i (front ++ xs) (front ++ ys) refl refl (λ e. e) (comes-same front xs ys h)

  none-named : (n : Option Name) (y : Item C) → y.name ≡ None → one_step n y.name ≡ false
  none-named None y e = refl
  none-named (Some n) y e = ap (one_step (Some n)) e

  none-tied : (n : Option Name) (y : Item C) → y.undoes ≡ None → one_step n y.undoes ≡ false
  none-tied None y e = refl
  none-tied (Some n) y e = ap (one_step (Some n)) e

  pub lacks-from : (n : Name) (xs ys : List (Item C)) → ComesFrom xs ys → Each (λ (i : Item C). one_step (Some n) i.name ≡ false) xs → Each (λ (i : Item C). one_step (Some n) i.name ≡ false) ys
  lacks-from n xs ys nothing h = tt
  lacks-from n xs ys (lost x xs' ys' c) h = lacks-from n xs' ys' c h.1
  lacks-from n xs ys (foreign y xs' ys' e f c) h = (none-named (Some n) y e, lacks-from n xs' ys' c h)
  lacks-from n xs ys (held x y xs' ys' e f r c) h = (ap (one_step (Some n)) e ∙ h.0, lacks-from n xs' ys' c h.1)

  not-named-from : (n : Option Name) (xs ys : List (Item C)) → ComesFrom xs ys → NotNamed n xs → NotNamed n ys
  not-named-from None xs ys c h = tt
  not-named-from (Some n) xs ys c h = lacks-from n xs ys c h

  pub differ-from : (xs ys : List (Item C)) → ComesFrom xs ys → NamesDiffer xs → NamesDiffer ys
  differ-from xs ys nothing h = tt
  differ-from xs ys (lost x xs' ys' c) h = differ-from xs' ys' c h.1
  differ-from xs ys (foreign y xs' ys' e f c) h = (subst (λ o. NotNamed o ys') (sym e) tt, differ-from xs' ys' c h)
  differ-from xs ys (held x y xs' ys' e f r c) h = (subst (λ o. NotNamed o ys') (sym e) (not-named-from x.name xs' ys' c h.0), differ-from xs' ys' c h.1)

  pub undoes-from : (n : Option Name) (xs ys : List (Item C)) → ComesFrom xs ys → NoRangeUndoes n xs → NoRangeUndoes n ys
  undoes-from n xs ys nothing h = tt
  undoes-from n xs ys (lost x xs' ys' c) h = undoes-from n xs' ys' c h.1
  undoes-from n xs ys (foreign y xs' ys' e f c) h = ((λ t. absurd (true≢false (sym t ∙ none-tied n y f))), undoes-from n xs' ys' c h)
  undoes-from n xs ys (held x y xs' ys' e f r c) h = ((λ t. r (h.0 (ap (one_step n) (sym f) ∙ t))), undoes-from n xs' ys' c h.1)

  pub free-from : (n : Name) (xs ys : List (Item C)) → ComesFrom xs ys → NoneUndoes n xs → NoneUndoes n ys
  free-from n xs ys nothing h = tt
  free-from n xs ys (lost x xs' ys' c) h = free-from n xs' ys' c h.1
  free-from n xs ys (foreign y xs' ys' e f c) h = (none-tied (Some n) y f, free-from n xs' ys' c h)
  free-from n xs ys (held x y xs' ys' e f r c) h = (ap (one_step (Some n)) f ∙ h.0, free-from n xs' ys' c h.1)

  pub once-from : (xs ys : List (Item C)) → ComesFrom xs ys → Once xs → Once ys
  once-from xs ys nothing h = tt
  once-from xs ys (lost x xs' ys' c) h = once-from xs' ys' c h.1
  once-from xs ys (foreign y xs' ys' e f c) h = ((λ n t. absurd (true≢false (sym t ∙ none-tied (Some n) y f))), once-from xs' ys' c h)
  once-from xs ys (held x y xs' ys' e f r c) h = (
    λ n t. ⊎_elim (λ (z : x.map ≡ []). inl (r z)) (λ (z : NoRangeUndoes (Some n) xs'). inr (undoes-from (Some n) xs' ys' c z)) (h.0 n (ap (one_step (Some n)) (sym f) ∙ t)),
    once-from xs' ys' c h.1,
  )

  pub drawn-from : (client drawn : ℕ) (xs ys : List (Item C)) → ComesFrom xs ys → Each (HasDrawn client drawn) xs → Each (HasDrawn client drawn) ys
  drawn-from client drawn xs ys nothing h = tt
  drawn-from client drawn xs ys (lost x xs' ys' c) h = drawn-from client drawn xs' ys' c h.1
  drawn-from client drawn xs ys (foreign y xs' ys' e f c) h =
      ((subst (IsDrawn client drawn) (sym e) tt, subst (IsDrawn client drawn) (sym f) tt), drawn-from client drawn xs' ys' c h)
  drawn-from client drawn xs ys (held x y xs' ys' e f r c) h =
      ((subst (IsDrawn client drawn) (sym e) h.0.0, subst (IsDrawn client drawn) (sym f) h.0.1), drawn-from client drawn xs' ys' c h.1)

  live-each : (xs ys : List (Item C)) (ns : List Name) → ComesFrom xs ys → Each (λ n. NoneUndoes n xs) ns → Each (λ n. NoneUndoes n ys) ns
  live-each xs ys [] c h = tt
  live-each xs ys (n ∷ ns) c h = (free-from n xs ys c h.0, live-each xs ys ns c h.1)

  -- a list of names without the dropped ones
  pub still-each : (P : Name → Type 0) (gone kept : List (Item C)) (ns : List Name) → Each P ns → Each P (still_named gone kept ns)
  still-each P gone kept [] h = tt
  still-each P gone kept (n ∷ ns) h = from (is_dropped gone kept n) (still-each P gone kept ns h.1)
    where
      from : (t : Bool) → Each P (still_named gone kept ns) → Each P (if t then still_named gone kept ns else n ∷ still_named gone kept ns)
      from true k = k
      from false k = (h.0, k)

  pub still-differ : (gone kept : List (Item C)) (ns : List Name) → Differ ns → Differ (still_named gone kept ns)
  still-differ gone kept [] h = tt
  still-differ gone kept (n ∷ ns) h = from (is_dropped gone kept n) (still-differ gone kept ns h.1)
    where
      from : (t : Bool) → Differ (still_named gone kept ns) → Differ (if t then still_named gone kept ns else n ∷ still_named gone kept ns)
      from true k = k
      from false k = (still-each (λ k. same_name n k ≡ false) gone kept ns h.0, k)

  still-append : (gone kept : List (Item C)) (ns ks : List Name) → still_named gone kept (ns ++ ks) ≡ still_named gone kept ns ++ still_named gone kept ks
  still-append gone kept [] ks = refl
  still-append gone kept (n ∷ ns) ks =
      ap (λ xs. if is_dropped gone kept n then xs else n ∷ xs) (still-append gone kept ns ks) ∙ from (is_dropped gone kept n)
    where
      from : (t : Bool) → (if t then still_named gone kept ns ++ still_named gone kept ks else n ∷ (still_named gone kept ns ++ still_named gone kept ks))
          ≡ (if t then still_named gone kept ns else n ∷ still_named gone kept ns) ++ still_named gone kept ks
      from true = refl
      from false = refl

  still-names : (gone kept : List (Item C)) (es : List Event) → names_of (without_dropped gone kept es) ≡ still_named gone kept (names_of es)
  still-names gone kept [] = refl
  still-names gone kept (e ∷ es) = ap (λ ns. still_named gone kept e.names ++ ns) (still-names gone kept es) ∙ sym (still-append gone kept e.names (names_of es))

  -- the names that stand in the events of a rebased history are those that were not dropped
  pub rebased-names : (h : Branches C) (count : ℕ) (maps : List (List Span)) (kept : List (Item C))
      → live_names (rebased h count maps kept) ≡ still_named (last_items count h.items) kept (live_names h)
  rebased-names h count maps kept =
      let gone = last_items count h.items in
      ap (λ ns. ns ++ names_of (without_dropped gone kept h.redo)) (still-names gone kept h.undo)
      ∙ ap (λ ns. still_named gone kept (names_of h.undo) ++ ns) (still-names gone kept h.redo)
      ∙ sym (still-append gone kept (names_of h.undo) (names_of h.redo))

  -- the names stay in order
  pub tidy-from : (xs ys gone kept : List (Item C)) (ns : List Name) → ComesFrom xs ys → IsTidy xs ns → IsTidy ys (still_named gone kept ns)
  tidy-from xs ys gone kept ns c t = record {
    names_differ = differ-from xs ys c t.names_differ;
    once = once-from xs ys c t.once;
    differ = still-differ gone kept ns t.differ;
  }

  -- and no step undoes one of them
  pub live-from : (xs ys gone kept : List (Item C)) (ns : List Name) → ComesFrom xs ys → Each (λ n. NoneUndoes n xs) ns → Each (λ n. NoneUndoes n ys) (still_named gone kept ns)
  live-from xs ys gone kept ns c h = still-each (λ n. NoneUndoes n ys) gone kept ns (live-each xs ys ns c h)
