-- Steps that are known to apply.
use Rattle.std.proofs.Common.{All, ◌≡◌, ℕ, ◌+◌, ◌-◌, ◌<◌, ◌≤◌, ◌⊎◌, ◌^◌, List, ◌++◌, length, take, drop, ap, sym, ◌∙◌, arith, subst, append_assoc, Some, Ok, Err, length-append, inl, inr}
use Rattle.std.proofs.lemmas.List.{take-append-drop}
use Rattle.std.proofs.lemmas.List.Elements.{All-from_recursion}
use Rattle.std.proofs.Math.Seq.{drop-append_seam}
use Rattle.pm_change.specs.Changes.{Meaning, Laws, fold}
use Rattle.pm_change.proofs.Folds.{fold-append}
use Rattle.pm_change.specs.Failing.{Answers}
use Rattle.pm_change.specs.declared.failed.Failed.{Failed}
use Rattle.pm_change.specs.declared.failed.Failed.TheVariants.{Reason as FailedFor}
use Rattle.pm_authority.specs.declared.named.Named.{Named}
use Rattle.pm_authority.specs.declared.running.Refusal.{Refusal}
use Rattle.pm_authority.specs.declared.message.Answer.TheVariants.{Accepted, Entries}
use Rattle.pm_authority.specs.Runs.{run, changes_of, AllApply}
use Rattle.pm_authority.proofs.RunFolds.{changes-append, fold-run, run-fold}
use Rattle.pm_client.specs.declared.client.Client.{Client}
use Rattle.pm_client.proofs.Takings.{rest-of}
use Rattle.pm_client.specs.Kins.{AnswerStands, Kin}
use Rattle.pm_client.specs.Plans.{Meets, MayConfirm, Fits}
use Rattle.pm_client.proofs.Prefixes.{front-applies}
use Rattle.pm_client.specs.Clients.{own_run}
use Rattle.pm_client.proofs.Keeps.{base-good}
use Rattle.pm_client.specs.declared.cursors.Cursor.{Cursor}
use Rattle.pm_map.specs.Positions.{MayLead, IsItself}
use Rattle.pm_client.specs.Cursors.{AreWithin, AreIn}
use Rattle.pm_client.specs.Rebases.{maps_of}
use Rattle.pm_client.specs.Rebasables.{NamedHasMap, CanRebaseOver}
use Rattle.pm_client.proofs.RebaseLaws.{Fork, fork, can-over, maps-fit, plain-paired, cursors-led}

module _ {Rules Doc Reason C : Type 0} (m : Meaning Rules Doc Reason C) (rules : Rules) where
  no-refusal : (doc : Doc) (ns : List (Named C)) (r : Refusal Reason) → (end : Doc) × AllApply m rules doc ns end → run m rules doc 0 ns ≡ Err r → ⊥
  no-refusal doc ns r h e = let o : run m rules doc 0 ns ≡ Ok h.0 = fold-run m rules doc h.0 0 ns h.1 in cc

  -- steps that apply are not refused
  pub never-refused : (doc : Doc) (ns : List (Named C)) (e : Failed (Refusal Reason)) (r : Refusal Reason) → (end : Doc) × AllApply m rules doc ns end
      → e ≡ FailedFor r → Answers (run m rules doc 0 ns) (Err e) → ⊥
  never-refused doc ns e r h is a = no-refusal doc ns r h (subst (λ (x : Failed (Refusal Reason)). Answers (run m rules doc 0 ns) (Err x)) is a)

  -- the first pending steps apply to the base
  pub first-apply : (c : Client C Rules Doc Reason) (own : ℕ) → AllApply m rules c.base c.pending c.doc → (end : Doc) × AllApply m rules c.base (take own c.pending) end
  first-apply c own applies =
      front-applies m rules c.base c.doc (take own c.pending) (drop own c.pending)
      (ap (λ l. fold m rules c.base (changes_of l)) (take-append-drop own c.pending) ∙ applies)

  pub confirm-applies : (c : Client C Rules Doc Reason) (own : ℕ) → MayConfirm m rules c own → (end : Doc) × AllApply m rules c.base (take own c.pending) end
  confirm-applies c own h = first-apply c own h.applies

  -- an accepted submission that ends past the version may be confirmed
  pub accepted-may : Laws m → (c : Client C Rules Doc Reason) (from count : ℕ) → Meets m rules c (Accepted from count) → c.version - from < count
      → MayConfirm m rules c count
  accepted-may laws c from count h past =
      let s = h.kin.stands in
      let same = is h.stands in
      record {
        good = base-good m rules h.first h.log c h.kin laws;
        applies = h.kin.doc_is;
        within = omega (arith, same, s.counted, ap length s.pending_is, length-append s.standing s.later);
        short = omega (arith, same, s.counted, h.kin.version_is, ap length h.kin.log_is, length-append h.kin.before h.kin.past, ap length s.past_is, length-append s.standing s.foreign, h.short);
      }
    where
      is : (from + count ≤ c.version) ⊎ ((from ≡ c.version) × (count ≡ h.kin.standing)) → count ≡ h.kin.standing
      is (inl l) = absurd (omega (arith, l, past))
      is (inr e) = e.1

  -- steps that were made have maps
  pub run-maps : Laws m → (doc end : Doc) (ns : List (Named C)) → m.is_good rules doc → run m rules doc 0 ns ≡ Ok end → All (NamedHasMap m) ns
  run-maps laws doc end ns good ran = All-from_recursion (NamedHasMap m) ns (maps-fit m rules laws doc end ns good (run-fold m rules doc end 0 ns ran)).1

  -- over which the document's cursors may go
  pub run-room : Laws m → (doc end : Doc) (ns : List (Named C)) (cs : List Cursor) → m.is_good rules doc → AreWithin (m.size doc) cs → run m rules doc 0 ns ≡ Ok end
      → MayLead AreIn IsItself cs (maps_of m ns)
  run-room laws doc end ns cs good within ran =
      cursors-led (maps_of m ns) (m.size doc) (m.size end) (plain-paired m rules ns) (maps-fit m rules laws doc end ns good (run-fold m rules doc end 0 ns ran)).0 cs within

  -- where the entries past the version and the pending steps part ways
  module _ (laws : Laws m) (c : Client C Rules Doc Reason) (rest standing front later : List (Named C)) (own : ℕ) (good : m.is_good rules c.base)
      (at : own ≡ length standing) (rest_is : rest ≡ standing ++ front) (pending_is : c.pending ≡ standing ++ later) (doc_is : AllApply m rules c.base c.pending c.doc)
      (base : Doc) (applies : AllApply m rules c.base rest base) where
    parting : Fork m rules c.base base c.doc standing front later
    parting =
        fork m rules laws c.base base c.doc standing front later good
        (ap (λ l. fold m rules c.base (changes_of l)) (sym rest_is) ∙ applies) (ap (λ l. fold m rules c.base (changes_of l)) (sym pending_is) ∙ doc_is)

    front_is : drop own rest ≡ front
    front_is = rw (at, rest_is) (drop-append_seam standing front)

    later_is : drop own c.pending ≡ later
    later_is = rw (at, pending_is) (drop-append_seam standing later)

    over-of : CanRebaseOver m rules base (drop own rest) (drop own c.pending) c.doc
    over-of = rw (front_is, later_is) (can-over m rules laws parting.at base c.doc front later parting.at_good parting.left_applies parting.right_applies)

  -- the entries past the version apply to the base
  module _ (c : Client C Rules Doc Reason) (first : Doc) (log : List (Named C)) (kin : Kin m rules first log c) (since : ℕ) (entries : List (Named C))
      (h : AnswerStands {Rules = Rules} {Doc = Doc} {Reason = Reason} {C = C} log c.version kin.standing (Entries since entries)) (past : c.version < since + length entries) where
    -- the log past the version begins with them
    past-begins : kin.past ≡ drop (c.version - since) entries ++ (rest-of m rules first log c kin since entries h past).after
    past-begins =
        let s = kin.stands in
        let r = rest-of m rules first log c kin since entries h past in
        s.past_is ∙ ap (λ l. s.standing ++ l) r.foreign_is ∙ sym (append_assoc s.standing r.front r.after) ∙ ap (λ l. l ++ r.after) (sym r.rest_is)

    pub rest-applies : (end : Doc) × AllApply m rules c.base (drop (c.version - since) entries) end
    rest-applies =
        let r = rest-of m rules first log c kin since entries h past in
        let all : fold m rules first (changes_of (kin.before ++ kin.past)) ≡ Some kin.log_applies.0 =
        ap (λ l. fold m rules first (changes_of l)) (sym kin.log_is) ∙ kin.log_applies.1 in
        let after_base : fold m rules c.base (changes_of kin.past) ≡ Some kin.log_applies.0 =
        sym (fold-append m rules first c.base (changes_of kin.before) (changes_of kin.past) kin.base_is)
        ∙ ap (fold m rules first) (sym (changes-append kin.before kin.past)) ∙ all in
        front-applies m rules c.base kin.log_applies.0 (drop (c.version - since) entries) r.after
        (ap (λ l. fold m rules c.base (changes_of l)) (sym past-begins) ∙ after_base)

  -- the entries past the version fit
  pub entries-fit : Laws m → (c : Client C Rules Doc Reason) (since : ℕ) (entries : List (Named C)) → Meets m rules c (Entries since entries)
      → c.version - since < length entries → Fits m rules c (drop (c.version - since) entries)
  entries-fit laws c since entries h past =
      let kin = h.kin in
      let first = h.first in
      let s = kin.stands in
      let rest : List (Named C) = drop (c.version - since) entries in
      let low = h.stands.0 in
      let far : c.version < since + length entries = omega (arith, low, past) in
      let r = rest-of m rules first h.log c kin since entries h.stands far in
      let whole : kin.past ≡ rest ++ r.after = past-begins c first h.log kin since entries h.stands far in
      let reaches = rest-applies c first h.log kin since entries h.stands far in
      let long : c.version + length rest < 2 ^ 64 =
      omega (arith, kin.version_is, ap length kin.log_is, length-append kin.before kin.past, ap length whole, length-append rest r.after, h.short) in
      record {
        leading = record {
          good = base-good m rules first h.log c kin laws;
          applies = kin.doc_is;
          within = omega (arith, r.own_is, s.counted, ap length s.pending_is, length-append s.standing s.later);
          short = omega (arith, long, r.own_is, s.counted, ap length r.rest_is, length-append s.standing r.front);
        };
        applies = reaches;
        over = λ base h2.
            over-of laws c rest s.standing r.front s.later (own_run c.name rest) (base-good m rules first h.log c kin laws) (r.own_is ∙ sym s.counted) r.rest_is s.pending_is kin.doc_is base h2;
        cursors = kin.cursors;
        have_maps = (over-of laws c rest s.standing r.front s.later (own_run c.name rest) (base-good m rules first h.log c kin laws) (r.own_is ∙ sym s.counted) r.rest_is s.pending_is kin.doc_is reaches.0 reaches.1).have_maps;
        short = long;
      }
