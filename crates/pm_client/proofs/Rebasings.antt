-- A rebasing that has come to some step.
use Rattle.std.proofs.Common.{◌≡◌, ℕ, ◌+◌, ◌<◌, List, [], ◌∷◌, Some, Ok, length, drop, get_or, suc, sym, ap, subst, ◌∙◌, add-one, refl}
use Rattle.std.proofs.Math.Seq.{drop-cons}
use Rattle.pm_map.specs.declared.mapping.Mirrored.{Mirrored}
use Rattle.pm_frames.specs.declared.route.Route.{Route}
use Rattle.pm_frames.specs.Routes.{Guides}
use Rattle.pm_change.specs.Changes.{Meaning, Laws}
use Rattle.pm_change.proofs.Folds.{fold-cons}
use Rattle.pm_authority.specs.declared.named.Named.{Named}
use Rattle.pm_authority.specs.Runs.{changes_of, AllApply}
use Rattle.pm_client.specs.declared.rebasing.Rebaser.{Rebaser}
use Rattle.pm_client.specs.Rebases.{Rebasing, start, rebased, rebased_one}
use Rattle.pm_client.specs.Rebasables.{CanRebase, MayRebase}
use Rattle.pm_client.specs.Rebasers.{IsAt, GoesOn}
use Rattle.pm_client.proofs.RebaseLaws.{one-can}

module _ {Rules Doc Reason C : Type 0} (m : Meaning Rules Doc Reason C) (rules : Rules) where
  -- what is still to be gone through leads to where the whole leads
  pub record HasCome (from : Rebasing C Rules Doc Reason) (steps : List (Named C)) (end : Doc) (i : ℕ) (so_far : Rebaser C Rules Doc Reason) : Type 0 where
    pub before : Doc
    pub so : Rebasing C Rules Doc Reason
    pub can : CanRebase m rules before so (drop i steps)
    pub ends : AllApply m rules before (drop i steps) end
    pub same : rebased m rules from steps ≡ rebased m rules so (drop i steps)
    pub is_at : IsAt m so_far so (m.size before)

  -- the same wherever it began
  abbrev pub IsRebasing : Doc → Route → List (Named C) → ℕ → Rebaser C Rules Doc Reason → Type 0
  IsRebasing doc route steps i so_far = (old end : Doc) (maps : List Mirrored) → CanRebase m rules old (start m doc maps) steps
      → AllApply m rules old steps end → Guides route maps (m.size old) (m.size doc) → HasCome (start m doc maps) steps end i so_far

  pub begun : (doc : Doc) (route : Route) (steps : List (Named C)) → IsRebasing doc route steps 0 (record { doc = doc; route = route; kept = []; items = []; dropped = [] })
  begun doc route steps old end maps can ends leads = record {
    before = old;
    so = start m doc maps;
    can = can;
    ends = ends;
    same = refl;
    is_at = record { same = refl; leads = leads };
  }

  module _ (from : Rebasing C Rules Doc Reason) (steps : List (Named C)) (end : Doc) (i : ℕ) (so_far : Rebaser C Rules Doc Reason) (n : Named C) (within : i < length steps) (is : n ≡ get_or steps i n) where
    at-step : drop i steps ≡ n ∷ drop (suc i) steps
    at-step = drop-cons steps i n within ∙ ap (λ x. x ∷ drop (suc i) steps) (sym is)

    -- the step's document, and the rest from there
    next-of : (was : HasCome from steps end i so_far) → (next : Doc) × (m.outcome rules n.change was.before ≡ Ok next) × AllApply m rules next (drop (suc i) steps) end
    next-of was = fold-cons m rules was.before end n.change (changes_of (drop (suc i) steps)) (subst (λ l. AllApply m rules was.before l end) at-step was.ends)

    may-of : (was : HasCome from steps end i so_far) → MayRebase m rules was.before was.so n
    may-of was = record { old_good = was.can.old_good; new_good = was.can.new_good; applies = ((next-of was).0, (next-of was).1); fits = was.can.fits }

    pub may-go_on : HasCome from steps end i so_far → (before : Doc) × (so : Rebasing C Rules Doc Reason) × (MayRebase m rules before so n × IsAt m so_far so (m.size before))
    may-go_on was = (was.before, was.so, (may-of was, was.is_at))

    pub gone_on : Laws m → HasCome from steps end i so_far → (next : Rebaser C Rules Doc Reason) → GoesOn m rules so_far n next → HasCome from steps end (i + 1) next
    gone_on laws was next goes =
        let f = next-of was in
        record {
          before = f.0;
          so = rebased_one m rules was.so n;
          can = rw add-one (one-can m rules laws was.before f.0 was.so n was.can.old_good was.can.new_good f.1 was.can.fits (drop (suc i) steps) was.can.paired (end, f.2));
          ends = rw add-one f.2;
          same = was.same ∙ ap (rebased m rules was.so) at-step ∙ rw add-one refl;
          is_at = goes was.before f.0 was.so (may-of was) f.1 was.is_at;
        }

  -- all steps were gone through
  pub come : (from : Rebasing C Rules Doc Reason) (steps : List (Named C)) (end : Doc) (i : ℕ) (so_far : Rebaser C Rules Doc Reason) → drop i steps ≡ []
      → HasCome from steps end i so_far → IsAt m so_far (rebased m rules from steps) (m.size end)
  come from steps end i so_far none was =
      let is : Some was.before ≡ Some end = subst (λ l. AllApply m rules was.before l end) none was.ends in
      let at : was.before ≡ end = cc in
      let same : rebased m rules from steps ≡ was.so = was.same ∙ ap (rebased m rules was.so) none in
      subst (λ d. IsAt m so_far (rebased m rules from steps) (m.size d)) at (subst (λ r. IsAt m so_far r (m.size was.before)) (sym same) was.is_at)
