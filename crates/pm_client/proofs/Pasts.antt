-- The history of a client whose later pending steps were carried over others' entries.
use Rattle.std.specs.Prelude.{◌≡◌, ◌-◌, List, [], ◌∷◌, ◌++◌, length, map, Some, refl}
use Rattle.std.specs.List.{AllByRecursion as Each}
use Rattle.std.proofs.Common.{sym, subst, ap, ◌∙◌, arith, length-append, append_assoc}
use Rattle.std.proofs.lemmas.List.{length-map}
use Rattle.pm_change.specs.Changes.{Meaning, Laws, fold}
use Rattle.pm_authority.specs.declared.named.Named.{Named}
use Rattle.pm_authority.specs.Runs.{changes_of, AllApply}
use Rattle.pm_history.specs.Histories.{last_items}
use Rattle.pm_history.specs.Timelines.{Step, changes_of as steps_changes}
use Rattle.pm_history.specs.Remembers.{live_names}
use Rattle.pm_history.specs.Standing.{IsHistoryOf}
use Rattle.pm_history.proofs.Carried.{all_items, all-ties, history-carried}
use Rattle.pm_history.proofs.Rebased.{none, maps_of as steps_maps}
use Rattle.pm_client.specs.declared.client.Client.{Client}
use Rattle.pm_client.specs.Clients.{carried_history}
use Rattle.pm_client.specs.Kins.{IsOwn, IsForeign, Kin}
use Rattle.pm_client.proofs.Lists.{Each-back}
use Rattle.pm_client.specs.Rebases.{Rebasing, maps_of, ranges_of, start, rebased}
use Rattle.pm_client.proofs.DropLaws.{rebased-own}
use Rattle.pm_client.specs.Timelines.{named_of, IsTimeline}
use Rattle.pm_client.proofs.TimelineLaws.{foreign_step, changes-are, timeline-append, timeline-split, all-own, foreign-timeline, own-timeline}
use Rattle.pm_client.proofs.Carryings.{Holds, rebased-holds}

foreign-ranges : {Rules Doc Reason C : Type 0} (m : Meaning Rules Doc Reason C) (ns : List (Named C)) → ranges_of m ns ≡ steps_maps m (map foreign_step ns)
foreign-ranges m [] = refl
foreign-ranges m (n ∷ ns) = ap (λ rs. m.step_map n.change ∷ rs) (foreign-ranges m ns)

regroup : {A : Type 0} (a b c d : List A) → (a ++ b) ++ (c ++ d) ≡ (a ++ (b ++ c)) ++ d
regroup a b c d = sym (append_assoc (a ++ b) c d) ∙ ap (λ l. l ++ d) (append_assoc a b c)

module _ {Rules Doc Reason C : Type 0} (m : Meaning Rules Doc Reason C) (rules : Rules) (first : Doc) (log : List (Named C))
    (c : Client C Rules Doc Reason) (kin : Kin m rules first log c) where
  -- the timeline and the history once the later pending steps were carried over some of others' entries
  pub record Carried (front : List (Named C)) (r : Rebasing C Rules Doc Reason) : Type 0 where
    pub steps : List (Step C)
    pub timeline_is : IsTimeline c.name steps (kin.before ++ (kin.stands.standing ++ front) ++ r.kept)
    pub history : IsHistoryOf m rules c.name c.serials first steps (carried_history c.history (length c.pending - kin.standing) (ranges_of m front) r.items)

  pub past-carried : Laws m → (base : Doc) (front : List (Named C)) (at : Doc) (r : Rebasing C Rules Doc Reason) → AllApply m rules first (kin.before ++ kin.stands.standing) at
      → AllApply m rules at front base → AllApply m rules at kin.stands.later c.doc → Each (IsForeign c.name) front
      → r ≡ rebased m rules (start m base (maps_of m front)) kin.stands.later → Carried front r
  past-carried laws base front at r before_applies front_applies later_applies far is =
      let s = kin.stands in
      let begun : Rebasing C Rules Doc Reason = start m base (maps_of m front) in
      let whole : IsTimeline c.name kin.timeline ((kin.before ++ s.standing) ++ s.later) =
      subst (IsTimeline c.name kin.timeline) (ap (λ l. kin.before ++ l) s.pending_is ∙ sym (append_assoc kin.before s.standing s.later)) kin.timeline_is in
      let t = timeline-split c.name kin.timeline (kin.before ++ s.standing) s.later whole in
      let F : List (Step C) = map foreign_step front in
      let others = foreign-timeline c.name front far in
      let own = all-own c.name t.back s.later t.back_is (Each-back (IsOwn c.name) s.standing s.later (rw s.pending_is at kin.own)) in
      let eA : fold m rules first (steps_changes t.front) ≡ Some at = ap (fold m rules first) (changes-are t.front ∙ ap changes_of t.front_is.named_are) ∙ before_applies in
      let eG : fold m rules at (steps_changes t.back) ≡ Some c.doc = ap (fold m rules at) (changes-are t.back ∙ ap changes_of t.back_is.named_are) ∙ later_applies in
      let eF : fold m rules at (steps_changes F) ≡ Some base = ap (fold m rules at) (changes-are F ∙ ap changes_of others.0.named_are) ∙ front_applies in
      let n : length t.back ≡ length s.later = sym (length-map t.back named_of) ∙ ap length t.back_is.named_are in
      let count : length t.back ≡ length c.pending - kin.standing = omega (arith, n, s.counted, ap length s.pending_is, length-append s.standing s.later) in
      let stood : IsHistoryOf m rules c.name c.serials first (t.front ++ t.back) c.history = subst (λ ss. IsHistoryOf m rules c.name c.serials first ss c.history) t.steps_are kin.history in
      let old = last_items (length t.back) (all_items m rules first (t.front ++ t.back) (live_names c.history) c.history.items stood.remembers) in
      let ties = all-ties m rules c.name c.serials first at c.doc t.front t.back c.history stood eA eG own in
      let held = rebased-holds m rules old base laws begun [] [] t.back (record { kept_are = refl; applies = refl; items_are = refl; comes = none; own = tt }) own ties in
      let K = held.0 in
      let k : Holds m rules old base r t.back K =
      subst (λ so. Holds m rules old base so t.back K) (ap (rebased m rules begun) t.back_is.named_are ∙ sym is) held.1 in
      let after = history-carried m rules c.name c.serials first at c.doc base r.doc t.front t.back F K c.history stood eA eG others.1 eF k.applies k.comes r.items k.items_are in
      let history : IsHistoryOf m rules c.name c.serials first (t.front ++ (F ++ K)) (carried_history c.history (length c.pending - kin.standing) (ranges_of m front) r.items) =
      subst (λ j. IsHistoryOf m rules c.name c.serials first (t.front ++ (F ++ K)) (carried_history c.history j (ranges_of m front) r.items)) count
      (subst (λ rs. IsHistoryOf m rules c.name c.serials first (t.front ++ (F ++ K)) (carried_history c.history (length t.back) rs r.items)) (sym (foreign-ranges m front)) after) in
      let kept_named : IsTimeline c.name K r.kept =
      own-timeline c.name K r.kept k.kept_are k.own (rw is (rebased-own m rules c.name begun s.later tt (Each-back (IsOwn c.name) s.standing s.later (rw s.pending_is at kin.own)))) in
      record {
        steps = t.front ++ (F ++ K);
        timeline_is = subst (IsTimeline c.name (t.front ++ (F ++ K))) (regroup kin.before s.standing front r.kept)
            (timeline-append c.name t.front (F ++ K) (kin.before ++ s.standing) (front ++ r.kept) t.front_is (timeline-append c.name F K front r.kept others.0 kept_named));
        history = history;
      }
