-- Lemmas: the items of steps that were carried over others' steps.
use Rattle.std.specs.Prelude.{◌≡◌, true, List, [], ◌∷◌, ◌++◌, map, Option, Some, None, Result, Ok, Err, refl}
use Rattle.std.specs.List.{AllByRecursion as Each}
use Rattle.std.proofs.Common.{sym, ap, subst, ◌∙◌, append_assoc, append-nil}
use Rattle.std.proofs.lemmas.List.{map-append}
use Rattle.pm_change.specs.Changes.{Meaning, Laws, fold}
use Rattle.pm_change.proofs.Folds.{fold-append}
use Rattle.pm_history.specs.declared.item.Item.{Item}
use Rattle.pm_history.specs.Timelines.{Step, changes_of, items_from}
use Rattle.pm_history.specs.Undos.{own_item}
use Rattle.pm_history.proofs.Folding.{changes-append}
use Rattle.pm_history.proofs.Edited.{items-more}
use Rattle.pm_history.proofs.Rebased.{KeptOf, none, dropped, kept}
use Rattle.pm_history.specs.Tied.{undoes_of, tied_as, all_tied}
use Rattle.pm_history.proofs.TiedLaws.{TiedBy}
use Rattle.pm_client.specs.Rebases.{Rebasing, ended, led, rebased_one, rebased}
use Rattle.pm_client.specs.Timelines.{named_of}
use Rattle.pm_client.proofs.Lists.{Each-append}

module _ {Rules Doc Reason C : Type 0} (m : Meaning Rules Doc Reason C) where
  kept-append : (gs hs ks ls : List (Step C)) → KeptOf m gs ks → KeptOf m hs ls → KeptOf m (gs ++ hs) (ks ++ ls)
  kept-append gs hs ks ls none h = h
  kept-append gs hs ks ls (dropped g gs' ks' c) h = dropped g (gs' ++ hs) (ks' ++ ls) (kept-append gs' hs ks' ls c h)
  kept-append gs hs ks ls (kept g k gs' ks' r c) h = kept g k (gs' ++ hs) (ks' ++ ls) r (kept-append gs' hs ks' ls c h)

module _ {Rules Doc Reason C : Type 0} (m : Meaning Rules Doc Reason C) (rules : Rules) (old : List (Item C)) (base : Doc) where
  -- The steps kept of those gone through, which apply from the base on, and their items.
  pub record Holds (so : Rebasing C Rules Doc Reason) (gone steps : List (Step C)) : Type 0 where
    pub kept_are : so.kept ≡ map named_of steps
    pub applies : fold m rules base (changes_of steps) ≡ Some so.doc
    pub items_are : all_tied old so.items ≡ items_from m rules base steps
    pub comes : KeptOf m gone steps
    pub own : Each (λ s. s.own ≡ true) steps

  -- one step more
  one-holds : Laws m → (so : Rebasing C Rules Doc Reason) (gone steps : List (Step C)) (g : Step C) → Holds so gone steps → g.own ≡ true → undoes_of (Some g.name) old ≡ g.undoes
      → (ss : List (Step C)) × Holds (rebased_one m rules so (named_of g)) (gone ++ g ∷ []) ss
  one-holds laws so gone steps g h own tie = from (m.carry g.change so.maps) refl
    where
      without : (so2 : Rebasing C Rules Doc Reason) → so2.kept ≡ so.kept → so2.doc ≡ so.doc → so2.items ≡ so.items → (ss : List (Step C)) × Holds so2 (gone ++ g ∷ []) ss
      without so2 a b c = (
        steps,
        record {
          kept_are = a ∙ h.kept_are;
          applies = h.applies ∙ ap Some (sym b);
          items_are = ap (all_tied old) c ∙ h.items_are;
          comes = subst (KeptOf m (gone ++ g ∷ [])) (append-nil steps) (kept-append m gone (g ∷ []) steps [] h.comes (dropped g [] [] none));
          own = h.own;
        },
      )

      tried : (c : C) (r : Result Doc Reason) → m.carry g.change so.maps ≡ Some c → m.outcome rules c so.doc ≡ r
          → (ss : List (Step C)) × Holds (ended m rules so (named_of g) c r) (gone ++ g ∷ []) ss
      tried c (Err e) was ran = without (ended m rules so (named_of g) c (Err e)) refl refl refl
      tried c (Ok d) was ran =
          let k : Step C = record { name = g.name; own = true; change = c; undoes = g.undoes } in
          let i : Item C = own_item m rules g.name.client so.doc c g.name.serial None in (
            steps ++ k ∷ [],
            record {
              kept_are = ap (λ l. l ++ named_of k ∷ []) h.kept_are ∙ sym (map-append named_of steps (k ∷ []));
              applies = ap (fold m rules base) (changes-append steps (k ∷ [])) ∙ fold-append m rules base so.doc (changes_of steps) (c ∷ []) h.applies ∙ rw ran refl;
              items_are = map-append (tied_as old) so.items (i ∷ []) ∙ ap (λ l. l ++ tied_as old i ∷ []) h.items_are
                  ∙ ap (λ o. items_from m rules base steps ++ record i { undoes = o } ∷ []) tie ∙ sym (items-more m rules base so.doc steps k h.applies);
              comes = kept-append m gone (g ∷ []) steps (k ∷ []) h.comes
                  (kept g k [] [] (record { name_is = refl; was_own = own; own = refl; undoes_is = refl; sizes_are = laws.carried g.change c so.maps was }) none);
              own = Each-append _ steps (k ∷ []) h.own (refl, tt);
            },
          )

      from : (o : Option C) → m.carry g.change so.maps ≡ o → (ss : List (Step C)) × Holds (led m rules so (named_of g) o) (gone ++ g ∷ []) ss
      from None was = without (led m rules so (named_of g) None) refl refl refl
      from (Some c) was = tried c (m.outcome rules c so.doc) was refl

  -- all steps gone through, each of which undoes what the old items say
  pub rebased-holds : Laws m → (so : Rebasing C Rules Doc Reason) (gone steps gs : List (Step C)) → Holds so gone steps → Each (λ g. g.own ≡ true) gs → TiedBy old gs
      → (ss : List (Step C)) × Holds (rebased m rules so (map named_of gs)) (gone ++ gs) ss
  rebased-holds laws so gone steps [] h own ties = (steps, subst (λ l. Holds so l steps) (sym (append-nil gone)) h)
  rebased-holds laws so gone steps (g ∷ gs) h own ties =
      let one = one-holds laws so gone steps g h own.0 ties.0 in
      let all = rebased-holds laws (rebased_one m rules so (named_of g)) (gone ++ g ∷ []) one.0 gs one.1 own.1 ties.1 in
      (all.0, subst (λ l. Holds (rebased m rules so (map named_of (g ∷ gs))) l all.0) (append_assoc gone (g ∷ []) gs) all.1)
