-- The first steps of a log apply.
use Rattle.std.proofs.Common.{◌≡◌, ◌∙◌, ◌+◌, ◌++◌, ℕ, List, [], ◌∷◌, take, drop, refl, sym, subst, Ok, Err, take-append-drop}
use Rattle.pm_change.specs.Changes.{Meaning}
use Rattle.pm_change.specs.Failing.{Answers}
use Rattle.pm_change.specs.declared.failed.Failed.{Failed}
use Rattle.pm_change.specs.declared.failed.Failed.TheVariants as failed
use Rattle.pm_authority.specs.declared.named.Named.{Named}
use Rattle.pm_authority.specs.declared.running.Refusal.{Refusal}
use Rattle.pm_authority.specs.Runs.{run, AllApply}
use Rattle.pm_authority.proofs.RunFolds.{run-cons, fold-run}

module _ {Rules Doc Reason C : Type 0} (m : Meaning Rules Doc Reason C) (rules : Rules) where
  front-runs : (doc end : Doc) (i : ℕ) (xs ys : List (Named C)) → run m rules doc i (xs ++ ys) ≡ Ok end → (mid : Doc) × (run m rules doc i xs ≡ Ok mid)
  front-runs doc end i [] ys h = (doc, refl)
  front-runs doc end i (x ∷ xs) ys h =
      let f = run-cons m rules doc end i x (xs ++ ys) h in
      let g = front-runs f.0 end (i + 1) xs ys f.2 in (g.0, rw f.1 g.1)

  -- of a log whose steps apply, the first n do
  pub first-apply : (doc end : Doc) (log : List (Named C)) (n : ℕ) → AllApply m rules doc log end → (mid : Doc) × (run m rules doc 0 (take n log) ≡ Ok mid)
  first-apply doc end log n h =
      front-runs doc end 0 (take n log) (drop n log)
      (subst (λ (xs : List (Named C)). run m rules doc 0 xs ≡ Ok end) (sym (take-append-drop n log)) (fold-run m rules doc end 0 log h))

  -- so none of them is refused
  pub none-refused : (doc end : Doc) (log : List (Named C)) (n : ℕ) (e : Refusal Reason) → AllApply m rules doc log end
      → run m rules doc 0 (take n log) ≡ Err e → ⊥
  none-refused doc end log n e h r = absurd (differs (first-apply doc end log n h).0 (sym (first-apply doc end log n h).1 ∙ r))
    where
      differs : (mid : Doc) → Ok mid ≡ Err e → ⊥
      differs mid q = absurd (cc)

  pub never-refused : (doc end : Doc) (log : List (Named C)) (n : ℕ) (f : Failed (Refusal Reason)) (e : Refusal Reason) → AllApply m rules doc log end
      → f ≡ failed.Reason e → Answers (run m rules doc 0 (take n log)) (Err f) → ⊥
  never-refused doc end log n f e h is answers =
      none-refused doc end log n e h (subst (λ (x : Failed (Refusal Reason)). Answers (run m rules doc 0 (take n log)) (Err x)) is answers)
