-- What a session that is read holds: a valid document, at most 32 clients, and lines that suit them.
use Rattle.std.proofs.Common.{◌≡◌, ◌≤◌, ℕ, Bool, true, false, List, [], length, drop, refl, subst, Result, Ok}
use Rattle.std.specs.Prelude.{nat_lt, MatchBool, IfOk, Err, if◌then◌else◌}
use Rattle.pm_tokens.specs.Faults.{Valid}
use Rattle.pm_schema.specs.Documents.{documents_of}
use Rattle.pm_head.specs.declared.form.Form.{Form}
use Rattle.pm_head.specs.declared.form.Form.TheVariants.{Plain, Late}
use Rattle.pm_head.specs.declared.code.Code.TheVariants.{InputTooLong, WrongEnter}
use Rattle.pm_head.specs.Refusals.{refused}
use Rattle.pm_head.specs.declared.fault.Refusal.{Refusal}
use Rattle.pm_meaning.specs.Steps.{Step}
use Rattle.pm_ops.specs.declared.op.Op.{Op}
use Rattle.pm_session.specs.declared.line.Line.{Line}
use Rattle.pm_head.specs.declared.reading.Head.{Head}
use Rattle.pm_head.specs.Clients.{raw_flags}
use Rattle.pm_head.specs.Heads.{HeadIs}
use Rattle.pm_head.specs.Lines.{lines_of}
use Rattle.pm_script.specs.declared.session.Session.{Session}
use Rattle.pm_head.specs.Answers.{Reads}
use Rattle.pm_script.specs.Held.{Holds, HoldsLate}
use Rattle.pm_script.specs.declared.session.TheConstants.{MAX_INPUT}
use Rattle.pm_script.specs.Entrants.{all_enter}
use Rattle.pm_script.specs.Sessions.{ops_of, with_ops, behind, behind_head, SessionOf, SessionIs}
use Rattle.pm_head.specs.declared.fault.SessionError.{SessionError}
use Rattle.pm_script.proofs.HeadLaws.{IsFew, head-good}
use Rattle.pm_script.proofs.Suited.{AllAre, ops-suit}

-- readings of sessions
abbrev read_as : Session → Result Session Refusal
read_as s = Ok s

if-ok : (b : Bool) (r : Result Session Refusal) (refusal : Refusal) (s : Session) → (if b then r else Err refusal) ≡ Ok s → r ≡ Ok s
if-ok true r refusal s h = h
if-ok false r refusal s h = absurd (cc)

-- what a session holds, by the form of its file
abbrev pub Held : Form → Session → Type 0
Held Plain s = Holds s
Held Late s = HoldsLate s

held : (form : Form) (s : Session) → Valid (documents_of s.head.schema.spec) s.head.doc → IsFew s.head.clients → AllAre form (raw_flags s.head.clients) [] s.lines → Held form s
held Plain s valid few suit = record { valid = valid; some = few.0; few = few.1; suit = suit }
held Late s valid few suit = record { valid = valid; some = few.0; few = few.1; suit = suit }

module _ (form : Form) where
  with-holds : (h : Head) (r : Result (List (Line Op Step)) Refusal) (s : Session) → Valid (documents_of h.schema.spec) h.doc → IsFew h.clients
      → ((ops : List (Line Op Step)) → r ≡ Ok ops → AllAre form (raw_flags h.clients) [] ops) → with_ops h r ≡ Ok s → Held form s
  with-holds h (Ok ops) s valid few suit e =
      let made : record { head = h; lines = ops } ≡ s = cc in
      subst (Held form) made (held form (record { head = h; lines = ops }) valid few (suit ops refl))
  with-holds h (Err refusal) s valid few suit e = absurd (cc)

  behind-holds : (lines rest : List (List ℕ)) (h : Head) (s : Session) → HeadIs form lines (Ok h) → Ok s ≡ behind form h rest → Held form s
  behind-holds lines rest h s is e =
      let back : behind form h rest ≡ Ok s = cc in
      let good = head-good form lines h is in
      let read = if-ok (all_enter h.clients rest) (with_ops h (ops_of form h.schema.spec h.clients [] 4 rest)) (refused 3 WrongEnter) s back in
      with-holds h (ops_of form h.schema.spec h.clients [] 4 rest) s good.0 good.1 (λ ops are. ops-suit form h.schema.spec h.clients good.2 [] 4 rest ops are) read

  of-holds : (lines : List (List ℕ)) (s : Session) → SessionOf form lines (Ok s) → Held form s
  of-holds lines s e = from e.0 e.1 e.2
    where
      from : (head : Result Head Refusal) → HeadIs form lines head → Ok s ≡ behind_head form head (drop 3 lines) → Held form s
      from (Ok h) is e = behind-holds lines (drop 3 lines) h s is e
      from (Err refusal) is e = absurd (cc)

  pub session-holds : (input : List ℕ) (s : Session) → SessionIs form input (Ok s) → Held form s
  session-holds input s e = from (nat_lt MAX_INPUT (length input)) e
    where
      from : (b : Bool) → MatchBool b (read_as s ≡ Err (refused 0 InputTooLong)) (SessionOf form (lines_of input) (Ok s)) → Held form s
      from true e = absurd (cc)
      from false e = of-holds (lines_of input) s e

  -- what is read holds
  pub reads-hold : (input : List ℕ) (r : Result Session SessionError) → Reads (λ s. s) (SessionIs form input) r → IfOk r (Held form)
  reads-hold input (Ok s) h = session-holds input s h
  reads-hold input (Err e) h = tt
