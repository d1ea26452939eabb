-- Changes that undo steps, and changes one after another, as far as some place.
use Rattle.std.specs.Prelude.{◌≡◌, ℕ, suc, ◌+◌, ◌<◌, List, [], ◌∷◌, ◌++◌, length, drop, get_or, Some, None, Ok, Err, refl}
use Rattle.std.proofs.Common.{sym, ap, ◌∙◌, subst, append_assoc, add-one}
use Rattle.std.proofs.Math.Seq.{drop-cons}
use Rattle.pm_change.specs.Changes.{Meaning, Laws, fold}
use Rattle.pm_change.proofs.Folds.{fold-cons}
use Rattle.pm_authority.specs.declared.named.Named.{Named}
use Rattle.pm_authority.specs.Runs.{changes_of}
use Rattle.pm_remote.specs.Backs.{undos}

module _ {Rules Doc Reason C : Type 0} (m : Meaning Rules Doc Reason C) (rules : Rules) where
  -- the steps before place i lead to this document, and these undo each of them
  pub record AreUndone (before : Doc) (steps : List (Named C)) (i : ℕ) (so_far : Doc) (all : List (List C)) : Type 0 where
    pub good : m.is_good rules so_far
    pub applies : (end : Doc) × (fold m rules so_far (changes_of (drop i steps)) ≡ Some end)
    pub same : all ++ undos m rules so_far (changes_of (drop i steps)) ≡ undos m rules before (changes_of steps)

  module _ (before : Doc) (steps : List (Named C)) (i : ℕ) (so_far : Doc) (all : List (List C)) (n : Named C) (within : i < length steps) (is : n ≡ get_or steps i n)
      (was : AreUndone before steps i so_far all) where
    at-step : drop i steps ≡ n ∷ drop (suc i) steps
    at-step = drop-cons steps i n within ∙ ap (λ x. x ∷ drop (suc i) steps) (sym is)

    -- the step there applies
    pub step-applies : (next : Doc) × (m.outcome rules n.change so_far ≡ Ok next)
    step-applies =
        let f = fold-cons m rules so_far was.applies.0 n.change (changes_of (drop (suc i) steps)) (rw at-step at was.applies.1) in
        (f.0, f.1)

    pub undone-more : Laws m → (next : Doc) → m.outcome rules n.change so_far ≡ Ok next → AreUndone before steps (i + 1) next (all ++ m.inverse rules n.change so_far ∷ [])
    undone-more laws next ok =
        let f = fold-cons m rules so_far was.applies.0 n.change (changes_of (drop (suc i) steps)) (rw at-step at was.applies.1) in
        let same_doc : f.0 ≡ next = let e = sym f.1 ∙ ok in cc in
        let undo : List C = m.inverse rules n.change so_far in
        let rest : undos m rules so_far (changes_of (drop i steps)) ≡ undo ∷ undos m rules next (changes_of (drop (suc i) steps)) =
        ap (λ l. undos m rules so_far (changes_of l)) at-step ∙ rw ok refl in
        record {
          good = laws.good rules n.change so_far next was.good ok;
          applies = (was.applies.0, rw add-one (subst (λ d. fold m rules d (changes_of (drop (suc i) steps)) ≡ Some was.applies.0) same_doc f.2));
          same = rw add-one (append_assoc all (undo ∷ []) (undos m rules next (changes_of (drop (suc i) steps))) ∙ ap (λ l. all ++ l) (sym rest) ∙ was.same);
        }

  -- the changes before place i lead to this document
  pub record IsFolded (doc : Doc) (changes : List C) (i : ℕ) (so_far : Doc) : Type 0 where
    pub good : m.is_good rules so_far
    pub same : fold m rules doc changes ≡ fold m rules so_far (drop i changes)

  module _ (doc : Doc) (changes : List C) (i : ℕ) (so_far : Doc) (c : C) (within : i < length changes) (is : c ≡ get_or changes i c) (was : IsFolded doc changes i so_far) where
    at-change : drop i changes ≡ c ∷ drop (suc i) changes
    at-change = drop-cons changes i c within ∙ ap (λ x. x ∷ drop (suc i) changes) (sym is)

    pub folded-more : Laws m → (next : Doc) → m.outcome rules c so_far ≡ Ok next → IsFolded doc changes (i + 1) next
    folded-more laws next ok = record {
      good = laws.good rules c so_far next was.good ok;
      same = was.same ∙ ap (fold m rules so_far) at-change ∙ rw (ok, add-one) refl;
    }

    pub folded-stops : (r : Reason) → m.outcome rules c so_far ≡ Err r → fold m rules doc changes ≡ None
    folded-stops r err = was.same ∙ ap (fold m rules so_far) at-change ∙ rw err refl
