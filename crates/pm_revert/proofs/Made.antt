-- The steps made to take entries back apply one after another.
use Rattle.std.specs.Prelude.{◌≡◌, ℕ, List, [], ◌∷◌, ◌++◌, length, Option, Some, None, Result, Ok, Err, refl}
use Rattle.std.proofs.Common.{ap, sym, subst, ◌∙◌, append_assoc, append-nil}
use Rattle.pm_change.specs.Changes.{Meaning, fold}
use Rattle.pm_authority.specs.declared.named.Named.{Named}
use Rattle.pm_authority.specs.declared.running.Refusal.{Refusal}
use Rattle.pm_history.proofs.Folding.{fold-first}
use Rattle.pm_revert.specs.declared.backs.Back.{Back}
use Rattle.pm_revert.specs.declared.taking.Taking.{Taking}
use Rattle.pm_revert.specs.declared.taken.Taken.{Taken}
use Rattle.pm_revert.specs.Backs.{backs}
use Rattle.pm_revert.specs.Takings.{passed, put, tried, led, go_on, taken_all, start, told, taken_back}

pub ok-same : {A E : Type 0} (r : Result A E) (x y : A) → r ≡ Ok x → r ≡ Ok y → x ≡ y
ok-same r x y e d = cc

module _ {Rules Doc Reason C : Type 0} (m : Meaning Rules Doc Reason C) (rules : Rules) where
  -- the steps made since
  pub record MadeSince (so t : Taking Doc C) : Type 0 where
    pub steps : List C
    pub made_is : t.made ≡ so.made ++ steps
    pub apply : fold m rules so.doc steps ≡ Some t.doc

  pub made-apply : (bs : List (Back C)) (so t : Taking Doc C) → taken_all m rules so bs ≡ Ok t → MadeSince so t
  made-apply [] so t e =
      let same : so ≡ t = ok-same (taken_all m rules so []) so t refl e in
      record { steps = []; made_is = ap (λ (x : Taking Doc C). x.made) (sym same) ∙ sym (append-nil so.made); apply = ap (λ (x : Taking Doc C). Some x.doc) same }
  made-apply (b ∷ bs) so t e = from (made-apply bs) (m.carry b.change so.maps) e
    where
      made : ((x y : Taking Doc C) → taken_all m rules x bs ≡ Ok y → MadeSince x y)
          → (c : C) (r : Result Doc Reason) → m.outcome rules c so.doc ≡ r → go_on m rules (tried m so b c r) (λ next. taken_all m rules next bs) ≡ Ok t → MadeSince so t
      made rest c (Ok d) ok e =
          let i = rest (put m so b c d) t e in
          record { steps = c ∷ i.steps; made_is = i.made_is ∙ append_assoc so.made (c ∷ []) i.steps; apply = fold-first m rules so.doc d c i.steps ok ∙ i.apply }
      made rest c (Err r) ok e = absurd (cc)

      from : ((x y : Taking Doc C) → taken_all m rules x bs ≡ Ok y → MadeSince x y)
          → (o : Option C) → go_on m rules (led m rules so b o) (λ next. taken_all m rules next bs) ≡ Ok t → MadeSince so t
      from rest None e =
          let i = rest (passed m so b) t e in
          record { steps = i.steps; made_is = i.made_is; apply = i.apply }
      from rest (Some c) e = made rest c (m.outcome rules c so.doc) refl e

  -- what is told of what was made
  pub record IsTold (bs : List (Back C)) (first : Taking Doc C) (t : Taken Doc C) : Type 0 where
    pub so : Taking Doc C
    pub comes : taken_all m rules first bs ≡ Ok so
    pub is : t ≡ record { doc = so.doc; steps = so.made }

  pub is-told : (bs : List (Back C)) (first : Taking Doc C) (t : Taken Doc C) → told m rules (taken_all m rules first bs) ≡ Ok t → IsTold bs first t
  is-told bs first t e = from (taken_all m rules first bs) refl e
    where
      from : (r : Result (Taking Doc C) (Refusal Reason)) → taken_all m rules first bs ≡ r → told m rules r ≡ Ok t → IsTold bs first t
      from (Ok so) comes e = record { so = so; comes = comes; is = sym (ok-same (told m rules (Ok so)) (record { doc = so.doc; steps = so.made }) t refl e) }
      from (Err x) comes e = absurd (cc)

  pub made-all : (bs : List (Back C)) (first so : Taking Doc C) (doc : Doc) → first.doc ≡ doc → first.made ≡ [] → taken_all m rules first bs ≡ Ok so → fold m rules doc so.made ≡ Some so.doc
  made-all bs first so doc there none e =
      let w = made-apply bs first so e in
      ap (fold m rules doc) (w.made_is ∙ ap (λ cs. cs ++ w.steps) none) ∙ ap (λ d. fold m rules d w.steps) (sym there) ∙ w.apply
