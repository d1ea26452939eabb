-- A run that has come to some step.
use Rattle.std.proofs.Common.{◌≡◌, ℕ, ◌+◌, ◌<◌, List, ◌∷◌, length, drop, get_or, suc, sym, ap, ◌∙◌, Ok, Err, add-one, refl}
use Rattle.std.proofs.Math.Seq.{drop-cons}
use Rattle.pm_change.specs.Changes.{Meaning, Laws}
use Rattle.pm_authority.specs.declared.named.Named.{Named}
use Rattle.pm_authority.specs.Runs.{run}

module _ {Rules Doc Reason C : Type 0} (m : Meaning Rules Doc Reason C) (rules : Rules) where
  -- the run has come to this document before step i
  pub record IsRun (doc : Doc) (steps : List (Named C)) (i : ℕ) (so_far : Doc) : Type 0 where
    pub good : m.is_good rules so_far
    pub same : run m rules doc 0 steps ≡ run m rules so_far i (drop i steps)

  module _ (doc : Doc) (steps : List (Named C)) (i : ℕ) (so_far : Doc) (n : Named C) (within : i < length steps) (is : n ≡ get_or steps i n) where
    at-step : drop i steps ≡ n ∷ drop (suc i) steps
    at-step = drop-cons steps i n within ∙ ap (λ x. x ∷ drop (suc i) steps) (sym is)

    pub run-more : Laws m → IsRun doc steps i so_far → (next : Doc) → m.outcome rules n.change so_far ≡ Ok next → IsRun doc steps (i + 1) next
    run-more laws was next ok = record {
      good = laws.good rules n.change so_far next was.good ok;
      same = was.same ∙ ap (run m rules so_far i) at-step ∙ rw (ok, add-one) refl;
    }

    pub run-stops : IsRun doc steps i so_far → (r : Reason) → m.outcome rules n.change so_far ≡ Err r
        → run m rules doc 0 steps ≡ Err (record { index = i; reason = r })
    run-stops was r err = was.same ∙ ap (run m rules so_far i) at-step ∙ rw err refl
