-- Lemmas: items that stand for steps say what these undo.
use Rattle.std.specs.Prelude.{◌≡◌, ℕ, ◌≤◌, true, false, if◌then◌else◌, List, [], ◌∷◌, ◌++◌, length, Option, Some}
use Rattle.std.specs.List.{AllByRecursion as Each}
use Rattle.std.proofs.Common.{sym, ap, subst, ◌∙◌}
use Rattle.pm_change.specs.declared.name.Name.{Name}
use Rattle.pm_change.specs.Changes.{Meaning, fold}
use Rattle.pm_change.proofs.Folds.{fold-cons}
use Rattle.pm_history.specs.declared.item.Item.{Item}
use Rattle.pm_history.specs.declared.branches.Branches.{Branches}
use Rattle.pm_history.specs.Items.{same_name, one_step}
use Rattle.pm_history.specs.Histories.{last_items}
use Rattle.pm_history.specs.Timelines.{Step, changes_of, item_at, items_from}
use Rattle.pm_history.specs.Tidy.{NotNamed, NamesDiffer}
use Rattle.pm_history.specs.Remembers.{live_names, StandFor}
use Rattle.pm_history.specs.Standing.{IsHistoryOf}
use Rattle.pm_history.proofs.Folding.{items-append, own-at}
use Rattle.pm_history.proofs.Rebased.{items-cons, seam}
use Rattle.pm_history.specs.Tied.{undoes_of}
use Rattle.pm_history.proofs.Ties.{each-map}
use Rattle.pm_history.proofs.Turned.{same-flip, each-both}
use Rattle.pm_history.proofs.Numbers.{same-self}

-- each of these steps undoes what the item of its name says
abbrev pub TiedBy : {C : Type 0} → List (Item C) → List (Step C) → Type 0
TiedBy old gs = Each (λ g. undoes_of (Some g.name) old ≡ g.undoes) gs

module _ {C : Type 0} where
  undoes-first : (n : Name) (o : Option Name) (i : Item C) (is : List (Item C)) → i.name ≡ Some n → i.undoes ≡ o → undoes_of (Some n) (i ∷ is) ≡ o
  undoes-first n o i is e f = ap (λ t. if t then i.undoes else undoes_of (Some n) is) (ap (one_step (Some n)) e ∙ same-self n) ∙ f

  undoes-later : (n : Name) (i : Item C) (is : List (Item C)) → one_step (Some n) i.name ≡ false → undoes_of (Some n) (i ∷ is) ≡ undoes_of (Some n) is
  undoes-later n i is e = ap (λ t. if t then i.undoes else undoes_of (Some n) is) e

module _ {Rules Doc Reason C : Type 0} (m : Meaning Rules Doc Reason C) (rules : Rules) where
  -- own steps whose items do not have a name do not have it
  named-apart : (n : Name) (doc end : Doc) (gs : List (Step C)) → Each (λ g. g.own ≡ true) gs → fold m rules doc (changes_of gs) ≡ Some end
      → Each (λ (j : Item C). one_step (Some n) j.name ≡ false) (items_from m rules doc gs) → Each (λ g. same_name n g.name ≡ false) gs
  named-apart n doc end [] own e h = tt
  named-apart n doc end (g ∷ gs) own e h =
      let x = fold-cons m rules doc end g.change (changes_of gs) e in
      let k = subst (λ is. Each (λ (j : Item C). one_step (Some n) j.name ≡ false) is) (items-cons m rules doc x.0 g gs x.1) h in
      (ap (λ (j : Item C). one_step (Some n) j.name) (sym (own-at m rules doc g own.0)) ∙ k.0, named-apart n x.0 end gs own.1 x.2 k.1)

  -- Items that stand for own steps say what each of them undoes.
  pub items-tie : (live : List Name) (doc end : Doc) (gs : List (Step C)) (is : List (Item C)) → StandFor live is (items_from m rules doc gs) → NamesDiffer (items_from m rules doc gs)
      → Each (λ g. g.own ≡ true) gs → fold m rules doc (changes_of gs) ≡ Some end → TiedBy is gs
  items-tie live doc end [] is h d own e = tt
  items-tie live doc end (g ∷ gs) [] h d own e = absurd h
  items-tie live doc end (g ∷ gs) (i ∷ is) h d own e =
      let x = fold-cons m rules doc end g.change (changes_of gs) e in
      let cons = items-cons m rules doc x.0 g gs x.1 in
      let a = own-at m rules doc g own.0 in
      let s : StandFor live (i ∷ is) (item_at m rules doc g ∷ items_from m rules x.0 gs) = subst (StandFor live (i ∷ is)) cons h in
      let d2 : NamesDiffer (item_at m rules doc g ∷ items_from m rules x.0 gs) = subst NamesDiffer cons d in
      let name : i.name ≡ Some g.name = s.0.name_is ∙ ap (λ (j : Item C). j.name) a in
      let undoes : i.undoes ≡ g.undoes = s.0.undoes_is ∙ ap (λ (j : Item C). j.undoes) a in
      let others : Each (λ (j : Item C). one_step (Some g.name) j.name ≡ false) (items_from m rules x.0 gs) =
      subst (λ o. NotNamed o (items_from m rules x.0 gs)) (ap (λ (j : Item C). j.name) a) d2.0 in
      let apart = named-apart g.name x.0 end gs own.1 x.2 others in (
        undoes-first g.name g.undoes i is name undoes,
        each-map (λ (k : Step C). (same_name g.name k.name ≡ false) × (undoes_of (Some k.name) is ≡ k.undoes)) (λ k. undoes_of (Some k.name) (i ∷ is) ≡ k.undoes) gs
            (λ k y. undoes-later k.name i is (ap (one_step (Some k.name)) name ∙ same-flip g.name k.name y.0) ∙ y.1)
            (each-both (λ (k : Step C). same_name g.name k.name ≡ false) (λ k. undoes_of (Some k.name) is ≡ k.undoes) gs apart (items-tie live x.0 end gs is s.1 d2.1 own.1 x.2)),
      )

  pub differ-after : (xs ys : List (Item C)) → NamesDiffer (xs ++ ys) → NamesDiffer ys
  differ-after [] ys h = h
  differ-after (x ∷ xs) ys h = differ-after xs ys h.1

  -- The last items of a history say what the last steps of its timeline undo.
  pub history-ties : (client drawn : ℕ) (first base end : Doc) (A G : List (Step C)) (h : Branches C) → IsHistoryOf m rules client drawn first (A ++ G) h
      → fold m rules first (changes_of A) ≡ Some base → fold m rules base (changes_of G) ≡ Some end → length G ≤ length h.items → Each (λ g. g.own ≡ true) G
      → TiedBy (last_items (length G) h.items) G
  history-ties client drawn first base end A G h k eA eG l own =
      let z = seam m rules client drawn first base end A G h k eA eG l in
      items-tie (live_names h) base end G (last_items (length G) h.items) z.last_stand
      (differ-after (items_from m rules first A) (items_from m rules base G) (subst NamesDiffer (items-append m rules first base A G eA) k.tidy.names_differ)) own eG
