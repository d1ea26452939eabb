-- Lemmas on timelines and their items.
use Rattle.std.specs.Prelude.{◌≡◌, true, List, [], ◌∷◌, ◌++◌, Some, Result, Ok, Err, refl}
use Rattle.std.proofs.Common.{sym, ap, ◌∙◌}
use Rattle.pm_change.specs.Changes.{Meaning, fold}
use Rattle.pm_change.proofs.Folds.{fold-cons}
use Rattle.pm_history.specs.Timelines.{Step, changes_of, item_at, next_items, items_from}

pub some-same : {A : Type 0} (a b : A) → Some a ≡ Some b → a ≡ b
some-same a b e = cc

module _ {C : Type 0} where
  pub changes-append : (xs ys : List (Step C)) → changes_of (xs ++ ys) ≡ changes_of xs ++ changes_of ys
  changes-append [] ys = refl
  changes-append (x ∷ xs) ys = ap (λ cs. x.change ∷ cs) (changes-append xs ys)

module _ {Rules Doc Reason C : Type 0} (m : Meaning Rules Doc Reason C) (rules : Rules) where
  pub fold-first : (doc next : Doc) (c : C) (cs : List C) → m.outcome rules c doc ≡ Ok next → fold m rules doc (c ∷ cs) ≡ fold m rules next cs
  fold-first doc next c cs e = rw e refl

  pub fold-split : (doc end : Doc) (cs ds : List C) → fold m rules doc (cs ++ ds) ≡ Some end
      → (mid : Doc) × (fold m rules doc cs ≡ Some mid) × (fold m rules mid ds ≡ Some end)
  fold-split doc end [] ds h = (doc, refl, h)
  fold-split doc end (c ∷ cs) ds h =
      let f = fold-cons m rules doc end c (cs ++ ds) h in
      let x = fold-split f.0 end cs ds f.2 in
      (x.0, fold-first doc f.0 c cs f.1 ∙ x.1, x.2)

  pub items-append : (doc mid : Doc) (xs ys : List (Step C)) → fold m rules doc (changes_of xs) ≡ Some mid
      → items_from m rules doc (xs ++ ys) ≡ items_from m rules doc xs ++ items_from m rules mid ys
  items-append doc mid [] ys h = ap (λ d. items_from m rules d ys) (some-same doc mid h)
  items-append doc mid (x ∷ xs) ys h =
      let f = fold-cons m rules doc mid x.change (changes_of xs) h in
      ap (λ r. item_at m rules doc x ∷ next_items m rules r (λ d. items_from m rules d (xs ++ ys))) f.1
      ∙ ap (λ is. item_at m rules doc x ∷ is) (items-append f.0 mid xs ys f.2)
      ∙ ap (λ r. (item_at m rules doc x ∷ next_items m rules r (λ d. items_from m rules d xs)) ++ items_from m rules mid ys) (sym f.1)

  pub own-at : (doc : Doc) (s : Step C) → s.own ≡ true
      → item_at m rules doc s ≡ record { name = Some s.name; map = m.step_map s.change; inverse = m.inverse rules s.change doc; undoes = s.undoes }
  own-at doc s e = rw e refl

  pub next-none : (r : Result Doc Reason) → next_items m rules r (λ d. []) ≡ []
  next-none (Ok d) = refl
  next-none (Err e) = refl
