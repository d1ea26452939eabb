-- A presented message keeps how every client stands to the log, and is never refused for a step.
use Rattle.std.specs.Prelude.{◌≡◌, ◌≢◌, ℕ, ◌+◌, ◌≤◌, ◌==◌, if◌then◌else◌, Bool, true, false, List, [], ◌∷◌, ◌++◌, length, take, drop, Some, Result, Ok, Err, refl}
use Rattle.std.specs.List.{AllByRecursion as Each}
use Rattle.std.proofs.Common.{sym, ap, ◌∙◌, inr, arith, length-append, append-nil, length-drop, take-append-drop}
use Rattle.std.proofs.lemmas.Bool.{eqb-true}
use Rattle.std.proofs.lemmas.List.{length-take-le}
use Rattle.pm_change.specs.Changes.{Meaning, Laws, fold}
use Rattle.pm_authority.specs.declared.named.Named.{Named}
use Rattle.pm_authority.specs.declared.running.Refusal.{Refusal}
use Rattle.pm_authority.specs.declared.message.Message.{Message}
use Rattle.pm_authority.specs.declared.message.Message.TheVariants.{Submit, Ask}
use Rattle.pm_authority.specs.declared.message.Answer.{Answer}
use Rattle.pm_authority.specs.declared.message.Answer.TheVariants.{WrongVersion, StepRefused, Entries}
use Rattle.pm_authority.specs.declared.authority.Authority.{Authority}
use Rattle.pm_authority.specs.Runs.{run, changes_of, AllApply}
use Rattle.pm_authority.specs.Kept.{IsKept}
use Rattle.pm_authority.specs.Presents.{tried, presented}
use Rattle.pm_authority.proofs.RunFolds.{kept-append, fold-run}
use Rattle.pm_client.specs.declared.client.Client.{Client}
use Rattle.pm_client.specs.Clients.{kept}
use Rattle.pm_client.specs.Kins.{IsOwn, IsForeign, IsPrefix, MessageStands, AnswerStands, Kin}
use Rattle.pm_client.proofs.Lists.{Each-front, nothing}
use Rattle.pm_client.proofs.Prefixes.{front-applies}
use Rattle.pm_client.proofs.Keeps.{kin-kept, kin-foreign, kin-accepted, kin-accepted-kept}

own-foreign : {C : Type 0} (a b : ℕ) (ns : List (Named C)) → (a ≡ b → ⊥) → Each (IsOwn a) ns → Each (IsForeign b) ns
own-foreign a b [] d o = tt
own-foreign a b (n ∷ ns) d o = ((λ e. d (sym o.0 ∙ e)), own-foreign a b ns d o.1)

-- How all stand after client c presented a message: the authority keeps what it keeps, c stands to the new log, and so
-- does each client of another name that stood to the old one.
pub record After {Rules Doc Reason C : Type 0} (m : Meaning Rules Doc Reason C) (rules : Rules) (a : Authority C Rules Doc Reason) (c : Client C Rules Doc Reason)
    (new : Authority C Rules Doc Reason) (next : Client C Rules Doc Reason) : Type 0 where
  pub authority : IsKept m rules new
  pub own : Kin m rules new.first new.log next
  pub other : (d : Client C Rules Doc Reason) → (c.name ≡ d.name → ⊥) → Kin m rules a.first a.log d → Kin m rules new.first new.log d

module _ {Rules Doc Reason C : Type 0} (m : Meaning Rules Doc Reason C) (rules : Rules) (laws : Laws m) (a : Authority C Rules Doc Reason) (c : Client C Rules Doc Reason)
    (stood : IsKept m rules a) (kin : Kin m rules a.first a.log c) where
  same-log : (x : Answer C Rules Doc Reason) → AnswerStands a.log c.version kin.standing x → After m rules a c a (kept c x)
  same-log x h = record { authority = stood; own = kin-kept m rules a.first a.log c kin x h; other = λ d apart k. k }

  version-in : c.version ≤ length a.log
  version-in = omega (arith, kin.version_is, ap length kin.log_is, length-append kin.before kin.past)

  standing-in : c.version + kin.standing ≤ length a.log
  standing-in =
      let s = kin.stands in
      omega (arith, kin.version_is, ap length kin.log_is, length-append kin.before kin.past, ap length s.past_is, length-append s.standing s.foreign, s.counted)

  others : (steps : List (Named C)) (end : Doc) → IsPrefix steps c.pending → fold m rules a.first (changes_of (a.log ++ steps)) ≡ Some end
      → (d : Client C Rules Doc Reason) → (c.name ≡ d.name → ⊥) → Kin m rules a.first a.log d → Kin m rules a.first (a.log ++ steps) d
  others steps end pre applies d apart k =
      let own : Each (IsOwn c.name) steps = Each-front (IsOwn c.name) steps pre.0 (rw (sym pre.1) at kin.own) in
      kin-foreign m rules a.first a.log d k steps end (own-foreign c.name d.name steps apart own) applies

  tried-kept : (steps : List (Named C)) (r : Result Doc (Refusal Reason)) → run m rules a.doc 0 steps ≡ r → c.version ≡ length a.log → IsPrefix steps c.pending
      → After m rules a c (tried m rules a steps r).1 (kept c (tried m rules a steps r).0)
  tried-kept steps (Err e) ran at pre = same-log (StepRefused e.index e.reason) tt
  tried-kept steps (Ok end) ran at pre =
      let after = kept-append m rules laws a end steps stood ran in
      record {
        authority = after;
        own = kin-accepted-kept m rules a.first a.log c kin steps end at pre after.folded;
        other = others steps end pre after.folded;
      }

  tried-only : (steps : List (Named C)) (r : Result Doc (Refusal Reason)) → run m rules a.doc 0 steps ≡ r → c.version ≡ length a.log → IsPrefix steps c.pending
      → After m rules a c (tried m rules a steps r).1 c
  tried-only steps (Err e) ran at pre = record { authority = stood; own = kin; other = λ d apart k. k }
  tried-only steps (Ok end) ran at pre =
      let after = kept-append m rules laws a end steps stood ran in
      record {
        authority = after;
        own = kin-accepted m rules a.first a.log c kin steps end at pre after.folded;
        other = others steps end pre after.folded;
      }

  -- a presented message, whose answer was kept
  pub presented-kept : (message : Message C) → MessageStands c.version c.pending message
      → After m rules a c (presented m rules a message).1 (kept c (presented m rules a message).0)
  presented-kept (Submit version steps) h = by-test (version == length a.log) refl
    where
      by-test : (t : Bool) → (version == length a.log) ≡ t
          → After m rules a c (if t then tried m rules a steps (run m rules a.doc 0 steps) else (WrongVersion (length a.log), a)).1
          (kept c (if t then tried m rules a steps (run m rules a.doc 0 steps) else (WrongVersion (length a.log), a)).0)
      by-test false e = same-log (WrongVersion (length a.log)) tt
      by-test true e =
          let at : version ≡ length a.log = eqb-true version (length a.log) e in
          tried-kept steps (run m rules a.doc 0 steps) refl (omega (arith, at, h.0, version-in)) (h.1 (omega (arith, at, h.0, version-in)))
  presented-kept (Ask version) h =
      same-log (Entries version (drop version a.log)) (
        h,
        (
          take version a.log,
          [],
          length-take-le version a.log (omega (arith, h, version-in)),
          append-nil (take version a.log ++ drop version a.log) ∙ take-append-drop version a.log,
        ),
        inr (omega (arith, standing-in, length-drop version a.log)),
      )

  -- a presented message, whose answer was not kept
  pub presented-only : (message : Message C) → MessageStands c.version c.pending message → After m rules a c (presented m rules a message).1 c
  presented-only (Ask version) h = record { authority = stood; own = kin; other = λ d apart k. k }
  presented-only (Submit version steps) h = by-test (version == length a.log) refl
    where
      by-test : (t : Bool) → (version == length a.log) ≡ t
          → After m rules a c (if t then tried m rules a steps (run m rules a.doc 0 steps) else (WrongVersion (length a.log), a)).1 c
      by-test false e = record { authority = stood; own = kin; other = λ d apart k. k }
      by-test true e =
          let at : version ≡ length a.log = eqb-true version (length a.log) e in
          tried-only steps (run m rules a.doc 0 steps) refl (omega (arith, at, h.0, version-in)) (h.1 (omega (arith, at, h.0, version-in)))

  -- under the log's length, the document of the authority is the client's base
  pub base-is-doc : c.version ≡ length a.log → c.base ≡ a.doc
  base-is-doc at =
      let none : kin.past ≡ [] = nothing kin.past (omega (arith, at, kin.version_is, ap length kin.log_is, length-append kin.before kin.past)) in
      let whole : a.log ≡ kin.before = kin.log_is ∙ ap (λ l. kin.before ++ l) none ∙ append-nil kin.before in
      let base : fold m rules a.first (changes_of a.log) ≡ Some c.base = ap (λ l. fold m rules a.first (changes_of l)) whole ∙ kin.base_is in
      let doc : fold m rules a.first (changes_of a.log) ≡ Some a.doc = stood.folded in
      cc

  -- a submission at the log's length applies
  pub submission-applies : (version : ℕ) (steps : List (Named C)) → MessageStands c.version c.pending (Submit version steps) → version ≡ length a.log
      → (end : Doc) × AllApply m rules a.doc steps end
  submission-applies version steps h at =
      let same : version ≡ c.version = omega (arith, at, h.0, version-in) in
      let pre = h.1 same in
      let whole : fold m rules c.base (changes_of (steps ++ pre.0)) ≡ Some c.doc = ap (λ l. fold m rules c.base (changes_of l)) pre.1 ∙ kin.doc_is in
      let f = front-applies m rules c.base c.doc steps pre.0 whole in
      (f.0, ap (λ d. fold m rules d (changes_of steps)) (sym (base-is-doc (sym same ∙ at))) ∙ f.1)

  -- no message of the client is refused for a step
  pub never-refused : (message : Message C) → MessageStands c.version c.pending message → (index : ℕ) (reason : Reason)
      → (presented m rules a message).0 ≢ StepRefused index reason
  never-refused (Ask version) h index reason e = absurd (cc)
  never-refused (Submit version steps) h index reason e = by-test (version == length a.log) refl e
    where
      by-test : (t : Bool) → (version == length a.log) ≡ t
          → (if t then tried m rules a steps (run m rules a.doc 0 steps) else (WrongVersion (length a.log), a)).0 ≢ StepRefused index reason
      by-test false was e = absurd (cc)
      by-test true was e =
          let f = submission-applies version steps h (eqb-true version (length a.log) was) in
          let ran = fold-run m rules a.doc f.0 0 steps f.1 in
          absurd (let accepted = rw ran at e in cc)
