-- A run of named steps is the fold of their changes.
use Rattle.std.specs.Prelude.{◌≡◌, ℕ, ◌+◌, List, [], ◌∷◌, ◌++◌, Some, Result, Ok, Err, refl}
use Rattle.std.proofs.Common.{ap, ◌∙◌}
use Rattle.pm_change.specs.Changes.{Meaning, Laws}
use Rattle.pm_change.proofs.Folds.{fold-cons, fold-append, fold-good}
use Rattle.pm_authority.specs.declared.named.Named.{Named}
use Rattle.pm_authority.specs.declared.authority.Authority.{Authority}
use Rattle.pm_authority.specs.Runs.{run, then_run, changes_of, AllApply}
use Rattle.pm_authority.specs.Kept.{IsKept}

pub changes-append : {C : Type 0} (xs ys : List (Named C)) → changes_of (xs ++ ys) ≡ changes_of xs ++ changes_of ys
changes-append [] ys = refl
changes-append (x ∷ xs) ys = ap (λ cs. x.change ∷ cs) (changes-append xs ys)

module _ {Rules Doc Reason C : Type 0} (m : Meaning Rules Doc Reason C) (rules : Rules) where
  -- a run that comes to a document applies its first step and then runs the rest
  pub run-cons : (doc end : Doc) (i : ℕ) (n : Named C) (ns : List (Named C)) → run m rules doc i (n ∷ ns) ≡ Ok end
      → (next : Doc) × (m.outcome rules n.change doc ≡ Ok next) × (run m rules next (i + 1) ns ≡ Ok end)
  run-cons doc end i n ns h = from (m.outcome rules n.change doc) refl h
    where
      from : (r : Result Doc Reason) → m.outcome rules n.change doc ≡ r → then_run m rules r i (λ d. run m rules d (i + 1) ns) ≡ Ok end
          → (next : Doc) × (m.outcome rules n.change doc ≡ Ok next) × (run m rules next (i + 1) ns ≡ Ok end)
      from (Ok next) e h = (next, e, h)
      from (Err r) e h = absurd (cc)

  -- what a run comes to, the fold comes to
  pub run-fold : (doc end : Doc) (i : ℕ) (ns : List (Named C)) → run m rules doc i ns ≡ Ok end → AllApply m rules doc ns end
  run-fold doc end i [] h = let e : doc ≡ end = cc in ap Some e
  run-fold doc end i (n ∷ ns) h =
      let f = run-cons doc end i n ns h in
      rw f.1 (run-fold f.0 end (i + 1) ns f.2)

  -- what a fold comes to, the run comes to
  pub fold-run : (doc end : Doc) (i : ℕ) (ns : List (Named C)) → AllApply m rules doc ns end → run m rules doc i ns ≡ Ok end
  fold-run doc end i [] h = let e : doc ≡ end = cc in ap Ok e
  fold-run doc end i (n ∷ ns) h =
      let f = fold-cons m rules doc end n.change (changes_of ns) h in
      rw f.1 (fold-run f.0 end (i + 1) ns f.2)

  -- an accepted submission keeps what an authority keeps
  pub kept-append : Laws m → (a : Authority C Rules Doc Reason) (end : Doc) (steps : List (Named C)) → IsKept m rules a
      → run m rules a.doc 0 steps ≡ Ok end → IsKept m rules record { first = a.first; doc = end; log = a.log ++ steps }
  kept-append laws a end steps kept ran =
      let f = run-fold a.doc end 0 steps ran in
      record {
        first_good = kept.first_good;
        good = fold-good m rules laws a.doc end (changes_of steps) kept.good f;
        folded = rw (changes-append a.log steps) (fold-append m rules a.first a.doc (changes_of a.log) (changes_of steps) kept.folded ∙ f);
      }
