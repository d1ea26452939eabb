-- Steps that are known to apply.
use Rattle.std.proofs.Common.{◌≡◌, ◌++◌, List, ap, ◌∙◌, sym, subst, Ok, Err}
use Rattle.pm_change.specs.Changes.{Meaning, fold}
use Rattle.pm_change.proofs.Folds.{fold-append}
use Rattle.pm_change.specs.Failing.{Answers}
use Rattle.pm_change.specs.declared.failed.Failed.{Failed}
use Rattle.pm_change.specs.declared.failed.Failed.TheVariants.{Reason as FailedFor}
use Rattle.pm_authority.specs.declared.named.Named.{Named}
use Rattle.pm_authority.specs.declared.running.Refusal.{Refusal}
use Rattle.pm_authority.specs.Runs.{run, changes_of, AllApply}
use Rattle.pm_authority.proofs.RunFolds.{changes-append, fold-run}

module _ {Rules Doc Reason C : Type 0} (m : Meaning Rules Doc Reason C) (rules : Rules) where
  no-refusal : (doc : Doc) (ns : List (Named C)) (r : Refusal Reason) → (end : Doc) × AllApply m rules doc ns end → run m rules doc 0 ns ≡ Err r → ⊥
  no-refusal doc ns r h e = let o : run m rules doc 0 ns ≡ Ok h.0 = fold-run m rules doc h.0 0 ns h.1 in cc

  -- steps that apply are not refused
  pub never-refused : (doc : Doc) (ns : List (Named C)) (e : Failed (Refusal Reason)) (r : Refusal Reason) → (end : Doc) × AllApply m rules doc ns end
      → e ≡ FailedFor r → Answers (run m rules doc 0 ns) (Err e) → ⊥
  never-refused doc ns e r h is a = no-refusal doc ns r h (subst (λ (x : Failed (Refusal Reason)). Answers (run m rules doc 0 ns) (Err x)) is a)

  -- steps in two parts
  pub two-apply : (doc mid end : Doc) (xs ys : List (Named C)) → AllApply m rules doc xs mid → AllApply m rules mid ys end → AllApply m rules doc (xs ++ ys) end
  two-apply doc mid end xs ys h k = ap (fold m rules doc) (changes-append xs ys) ∙ fold-append m rules doc mid (changes_of xs) (changes_of ys) h ∙ k

  -- what the second part does from the document between them
  pub later-applies : (doc mid end : Doc) (xs ys : List (Named C)) → AllApply m rules doc xs mid → AllApply m rules doc (xs ++ ys) end → AllApply m rules mid ys end
  later-applies doc mid end xs ys h k = sym (fold-append m rules doc mid (changes_of xs) (changes_of ys) h) ∙ ap (fold m rules doc) (sym (changes-append xs ys)) ∙ k
