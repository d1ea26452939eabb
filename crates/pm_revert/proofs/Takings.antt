-- Changes that undo entries, made one after another.
use Rattle.std.specs.Prelude.{◌≡◌, ℕ, ◌+◌, ◌≤◌, ◌<◌, suc, List, [], ◌∷◌, ◌++◌, length, take, drop, Some, Result, Ok, Err, All, refl}
use Rattle.std.proofs.Common.{arith, ap, sym, subst, ◌∙◌, get_or}
use Rattle.std.proofs.Math.Seq.{drop-cons}
use Rattle.std.proofs.lemmas.List.Elements.{All-from_recursion}
use Rattle.pm_map.specs.declared.mapping.Mirrored.{Mirrored}
use Rattle.pm_change.specs.declared.failed.Failed.{Failed}
use Rattle.pm_change.specs.declared.failed.Failed.TheVariants.{Reason as because, NoMemory}
use Rattle.pm_change.specs.Changes.{Meaning, Laws, fold}
use Rattle.pm_change.specs.Failing.{Answers}
use Rattle.pm_change.proofs.Folds.{fold-good}
use Rattle.pm_authority.specs.declared.named.Named.{Named}
use Rattle.pm_authority.specs.declared.running.Refusal.{Refusal}
use Rattle.pm_authority.specs.Runs.{changes_of, AllApply}
use Rattle.pm_client.specs.Rebases.{maps_of}
use Rattle.pm_client.specs.Rebasables.{NamedHasMap}
use Rattle.pm_client.proofs.RebaseLaws.{maps-fit, plain-paired}
use Rattle.pm_revert.specs.declared.backs.Back.{Back}
use Rattle.pm_revert.specs.declared.taking.Taking.{Taking}
use Rattle.pm_revert.specs.Backs.{backs, MayGoBack}
use Rattle.pm_revert.specs.Takings.{taken_one, go_on, taken_all, start, EndsAt}
use Rattle.pm_revert.specs.Chains.{AreBacks, IsAt, MayTake, MayTakeAll}
use Rattle.pm_revert.proofs.Chains.{all-backs, goes-on}

module _ {Rules Doc Reason C : Type 0} (m : Meaning Rules Doc Reason C) (rules : Rules) where
  -- so many changes were made or passed over, and the rest may be
  pub record IsTaking (first : Taking Doc C) (bs : List (Back C)) (i : ℕ) (so : Taking Doc C) : Type 0 where
    pub may : MayTakeAll m rules so (drop i bs)
    pub same : taken_all m rules so (drop i bs) ≡ taken_all m rules first bs

  module _ (first : Taking Doc C) (bs : List (Back C)) (i : ℕ) (so : Taking Doc C) (b : Back C) (within : i < length bs) (is : b ≡ get_or bs i b) (was : IsTaking first bs i so) where
    rest : drop i bs ≡ b ∷ drop (suc i) bs
    rest = drop-cons bs i b within ∙ ap (λ x. x ∷ drop (suc i) bs) (sym is)

    may : MayTakeAll m rules so (b ∷ drop (suc i) bs)
    may = subst (MayTakeAll m rules so) rest was.may

    same : taken_all m rules so (b ∷ drop (suc i) bs) ≡ taken_all m rules first bs
    same = sym (ap (taken_all m rules so) rest) ∙ was.same

    pub one-may : MayTake m rules so b
    one-may = (may.0, may.1.1.0, (may.1.0, may.1.1.1.0))

    pub one-taken : Laws m → (next : Taking Doc C) → taken_one m rules so b ≡ Ok next → IsTaking first bs (i + 1) next
    one-taken laws next e =
        let one : suc i ≡ i + 1 = omega arith in
        subst (λ j. IsTaking first bs j next) one (record {
          may = (may.1.1.0, (goes-on m rules laws so b may.0 may.1.1.0 may.1.0 may.1.1.1.0 next e, may.1.1.1.1));
          same = sym (ap (λ r. go_on m rules r (λ s. taken_all m rules s (drop (suc i) bs))) e) ∙ same;
        })

    pub one-refused : (f : Failed (Refusal Reason)) → Answers (taken_one m rules so b) (Err f) → Answers (taken_all m rules first bs) (Err f)
    one-refused NoMemory h = tt
    one-refused (because e) h = sym same ∙ ap (λ r. go_on m rules r (λ s. taken_all m rules s (drop (suc i) bs))) h

  pub all-taken : (first : Taking Doc C) (bs : List (Back C)) (i : ℕ) (so : Taking Doc C) → drop i bs ≡ [] → IsTaking first bs i so → taken_all m rules first bs ≡ Ok so
  all-taken first bs i so none was = sym was.same ∙ ap (taken_all m rules so) none

  pub none-taken : (first : Taking Doc C) (bs : List (Back C)) → MayTakeAll m rules first bs → IsTaking first bs 0 first
  none-taken first bs may = record { may = may; same = refl }

  -- ---- the whole

  module _ (laws : Laws m) (before : Doc) (entries later : List (Named C)) (doc : Doc) (h : EndsAt m rules before entries later doc) where
    mid_good : m.is_good rules h.mid
    mid_good = fold-good m rules laws before h.mid (changes_of entries) h.good h.apply

    pub have-own : All (NamedHasMap m) entries
    have-own = All-from_recursion (NamedHasMap m) entries (maps-fit m rules laws before h.mid entries h.good h.apply).1

    pub have-later : All (NamedHasMap m) later
    have-later = All-from_recursion (NamedHasMap m) later (maps-fit m rules laws h.mid doc later mid_good h.later_apply).1

    may-start : MayTakeAll m rules (start m rules later doc) (backs m rules before (changes_of entries))
    may-start =
        let at : IsAt m rules (start m rules later doc) (m.size h.mid) = record {
          good = fold-good m rules laws h.mid doc (changes_of later) mid_good h.later_apply;
          paired = plain-paired m rules later;
          fits = (maps-fit m rules laws h.mid doc later mid_good h.later_apply).0;
        } in
        (m.size h.mid, (at, all-backs m rules laws before h.mid 0 (changes_of entries) [] h.good h.apply tt))

    pub may-all : (d : Doc) (ms : List Mirrored) (made : List C) (bs : List (Back C)) → d ≡ doc → ms ≡ maps_of m later → made ≡ [] → bs ≡ backs m rules before (changes_of entries)
        → MayTakeAll m rules (record { doc = d; maps = ms; made = made }) bs
    may-all d ms made bs ed em en eb =
        let same : record { doc = d; maps = ms; made = made } ≡ start m rules later doc =
        ap (λ z. record { doc = z; maps = ms; made = made }) ed ∙ ap (λ z. record { doc = doc; maps = z; made = made }) em ∙ ap (λ z. record { doc = doc; maps = maps_of m later; made = z }) en in
        subst (λ so. MayTakeAll m rules so bs) (sym same) (subst (MayTakeAll m rules (start m rules later doc)) (sym eb) may-start)

  pub may-back : (before : Doc) (entries later : List (Named C)) (doc : Doc) → EndsAt m rules before entries later doc → MayGoBack m rules before (changes_of entries)
  may-back before entries later doc h = record { good = h.good; end = h.mid; apply = h.apply }
