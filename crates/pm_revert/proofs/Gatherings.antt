-- The changes that undo entries, as they are gathered.
use Rattle.std.specs.Prelude.{◌≡◌, ℕ, ◌+◌, ◌<◌, suc, List, [], ◌∷◌, ◌++◌, length, drop, reverse, map, Some, Result, Ok, refl}
use Rattle.std.proofs.Common.{arith, ap, sym, subst, ◌∙◌, get_or, append_assoc}
use Rattle.std.proofs.Math.Seq.{drop-cons}
use Rattle.std.proofs.lemmas.List.{reverse-append}
use Rattle.pm_change.specs.Changes.{Meaning, Laws, fold}
use Rattle.pm_change.proofs.Folds.{fold-cons}
use Rattle.pm_authority.specs.declared.named.Named.{Named}
use Rattle.pm_authority.specs.Runs.{changes_of}
use Rattle.pm_revert.specs.declared.backs.Back.{Back}
use Rattle.pm_revert.specs.Backs.{back, backs_at, then_backs, backs_onto, backs, MayGoBack}

module _ {C : Type 0} where
  at-append : (i : ℕ) (cs ds : List C) → backs_at i (cs ++ ds) ≡ backs_at i cs ++ backs_at i ds
  at-append i [] ds = refl
  at-append i (c ∷ cs) ds = ap (λ bs. back i c ∷ bs) (at-append i cs ds)

  -- one change more from the end
  pub turned-one : (i : ℕ) (front : List C) (c : C) (found : List (Back C)) → backs_at i (front ++ c ∷ []) ++ reverse found ≡ backs_at i front ++ reverse (found ++ back i c ∷ [])
  turned-one i front c found =
      ap (λ bs. bs ++ reverse found) (at-append i front (c ∷ []))
      ∙ append_assoc (backs_at i front) (back i c ∷ []) (reverse found)
      ∙ ap (λ bs. backs_at i front ++ bs) (sym (reverse-append found (back i c ∷ [])))

module _ {Rules Doc Reason C : Type 0} (m : Meaning Rules Doc Reason C) (rules : Rules) where
  -- So many entries were gone through, and led to the document; the changes found undo them, turned round.
  pub record IsFound (before : Doc) (entries : List (Named C)) (i : ℕ) (doc : Doc) (index : ℕ) (found : List (Back C)) : Type 0 where
    pub index_is : index ≡ i
    pub may : MayGoBack m rules doc (changes_of (drop i entries))
    pub same : backs_onto m rules doc index (changes_of (drop i entries)) (reverse found) ≡ backs m rules before (changes_of entries)

  module _ (before : Doc) (entries : List (Named C)) (i : ℕ) (doc : Doc) (index : ℕ) (found : List (Back C)) (n : Named C) (within : i < length entries) (is : n ≡ get_or entries i n)
      (was : IsFound before entries i doc index found) where
    rest : drop i entries ≡ n ∷ drop (suc i) entries
    rest = drop-cons entries i n within ∙ ap (λ x. x ∷ drop (suc i) entries) (sym is)

    split : (next : Doc) × (m.outcome rules n.change doc ≡ Ok next) × (fold m rules next (changes_of (drop (suc i) entries)) ≡ Some was.may.end)
    split = fold-cons m rules doc was.may.end n.change (changes_of (drop (suc i) entries)) (subst (λ ns. fold m rules doc (changes_of ns) ≡ Some was.may.end) rest was.may.apply)

    pub one-applies : (next : Doc) × (m.outcome rules n.change doc ≡ Ok next)
    one-applies = (split.0, split.1)

    -- one entry more
    pub one-found : Laws m → (next : Doc) (more : List (Back C)) → m.outcome rules n.change doc ≡ Ok next → reverse more ≡ backs_at index (m.inverse rules n.change doc) ++ reverse found
        → IsFound before entries (i + 1) next (index + 1) more
    one-found laws next more ok turned =
        let there : split.0 ≡ next = same_ok (m.outcome rules n.change doc) split.0 next split.1 ok in
        let one : suc i ≡ i + 1 = omega arith in
        let cs = changes_of (drop (suc i) entries) in
        let on : fold m rules next cs ≡ Some was.may.end = subst (λ d. fold m rules d cs ≡ Some was.may.end) there split.2 in
        let whole : backs_onto m rules next (index + 1) cs (reverse more) ≡ backs m rules before (changes_of entries) =
        ap (backs_onto m rules next (index + 1) cs) turned
        ∙ sym (ap (λ r. then_backs m rules r (λ d. backs_onto m rules d (index + 1) cs (backs_at index (m.inverse rules n.change doc) ++ reverse found))) ok)
        ∙ ap (λ ns. backs_onto m rules doc index (changes_of ns) (reverse found)) (sym rest)
        ∙ was.same in
        subst (λ j. IsFound before entries j next (index + 1) more) one (record {
          index_is = ap (λ x. x + 1) was.index_is ∙ sym one;
          may = record { good = laws.good rules n.change doc next was.may.good ok; end = was.may.end; apply = on };
          same = whole;
        })
      where
        same_ok : (r : Result Doc Reason) (x y : Doc) → r ≡ Ok x → r ≡ Ok y → x ≡ y
        same_ok r x y e d = cc

  pub all-found : (before : Doc) (entries : List (Named C)) (i : ℕ) (doc : Doc) (index : ℕ) (found : List (Back C)) → drop i entries ≡ [] → IsFound before entries i doc index found
      → reverse found ≡ backs m rules before (changes_of entries)
  all-found before entries i doc index found none was =
      sym (ap (λ ns. backs_onto m rules doc index (changes_of ns) (reverse found)) none) ∙ was.same
