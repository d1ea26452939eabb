-- Two sessions that are the same but for their schemas, which were built of the same types, have one report. Playing asks a
-- schema for nothing but what it is to documents, and for the steps of ops.
use Rattle.std.proofs.Common.{◌≡◌, ℕ, Bool, true, false, List, length, take, codes, decimal, sym, ap, subst, ◌∙◌}
use Rattle.std.specs.Prelude.{Some, Ok, MatchBool, nat_lt}
use Rattle.serde_json.specs.Written.{compact_text}
use Rattle.pm_change.specs.Changes.{Meaning, fold}
use Rattle.pm_authority.specs.Runs.{AllApply, changes_of}
use Rattle.pm_tokens.specs.Tokens.{Doc}
use Rattle.pm_tokens.specs.Schemas as documents
use Rattle.pm_schema.specs.declared.schema.Schema.{Schema}
use Rattle.pm_schema.specs.Built.{IsBuilt}
use Rattle.pm_schemajson.proofs.SameDocuments.{documents-alike}
use Rattle.pm_meaning.specs.Steps.{Step}
use Rattle.pm_meaning.specs.declared.reason.Reason.{Reason}
use Rattle.pm_meaning.specs.Meanings.{meaning_by}
use Rattle.pm_apply.specs.Changes.{meaning}
use Rattle.pm_head.specs.declared.form.Form.TheVariants as form
use Rattle.pm_head.specs.Clients.{raw_flags}
use Rattle.pm_session.specs.Sessions.{opened, session, settled}
use Rattle.pm_versions.specs.LateSessions.{late_session}
use Rattle.pm_script.specs.declared.session.Session.{Session}
use Rattle.pm_script.specs.OneMeaning.{SameSession}
use Rattle.pm_script.specs.Sessions.{SessionIs}
use Rattle.pm_script.proofs.OneSession.{one-session}
use Rattle.pm_report.specs.Outcomes.{with_numbers}
use Rattle.pm_report.specs.Report.{report}
use Rattle.pm_report.specs.Words.{◌&◌, line}
use Rattle.pm_call.specs.Playing.{Room, playing, room_settled, report_of}
use Rattle.pm_call.specs.LatePlaying.{late_playing, late_room_settled, late_report_of, version_line, past_line, IsVersionText}
use Rattle.pm_same.proofs.Built.{session-built}
use Rattle.pm_same.proofs.SameSteps.{makes-alike}
use Rattle.pm_same.proofs.SameTexts.{doc-written-alike, report-alike}

-- what changes mean to documents of this schema, whatever the rules
abbrev by : documents.Schema → Meaning Schema Doc Reason Step
by d = meaning_by (λ rules. d)

-- the text has the document of a version
abbrev HasVersion : Session → ℕ → List ℕ → Type 0
HasVersion s n text = (doc : Doc) × AllApply meaning s.head.schema s.head.doc (take n (late_room_settled s).authority.log) doc × (text ≡ version_line s.head.schema.spec n doc)

some-same : {A : Type 0} (x y : A) → Some x ≡ Some y → x ≡ y
some-same x y h = cc

module _ (s t : Session) (e : SameSession s t) (bs : IsBuilt s.head.schema) (bt : IsBuilt t.head.schema) where
  playing-alike : playing s ≡ playing t
  playing-alike =
      λ i. session (by (documents-alike s.head.schema.spec t.head.schema.spec e.head.types i)) s.head.schema
      (λ d o. makes-alike s.head.schema t.head.schema e.head.types bs bt d o i)
      (opened (e.head.doc i) (raw_flags (e.head.clients i))) (e.lines i)

  settled-alike : room_settled s ≡ room_settled t
  settled-alike = λ i. settled (by (documents-alike s.head.schema.spec t.head.schema.spec e.head.types i)) s.head.schema (playing-alike i).1

  pub reports-alike : report_of s ≡ report_of t
  reports-alike =
      (λ i. report s.head.schema.spec (e.head.clients i) (with_numbers (e.lines i) (playing-alike i).0) (playing-alike i).1 (settled-alike i))
      ∙ report-alike s.head.schema.spec t.head.schema.spec e.head.types t.head.clients (with_numbers t.lines (playing t).0) (playing t).1 (room_settled t)

  -- ---- where clients enter late

  late-playing-alike : late_playing s ≡ late_playing t
  late-playing-alike =
      λ i. late_session (by (documents-alike s.head.schema.spec t.head.schema.spec e.head.types i)) s.head.schema
      (λ d o. makes-alike s.head.schema t.head.schema e.head.types bs bt d o i)
      (opened (e.head.doc i) (raw_flags (e.head.clients i))) (e.lines i)

  late-settled-alike : late_room_settled s ≡ late_room_settled t
  late-settled-alike = λ i. settled (by (documents-alike s.head.schema.spec t.head.schema.spec e.head.types i)) s.head.schema (late-playing-alike i).1

  late-reports-alike : late_report_of s ≡ late_report_of t
  late-reports-alike =
      (λ i. report s.head.schema.spec (e.head.clients i) (with_numbers (e.lines i) (late-playing-alike i).0) (late-playing-alike i).1 (late-settled-alike i))
      ∙ report-alike s.head.schema.spec t.head.schema.spec e.head.types t.head.clients (with_numbers t.lines (late_playing t).0) (late_playing t).1 (late_room_settled t)

  -- the first n steps of the logs give one document, if any
  folds-alike : (n : ℕ) → fold meaning s.head.schema s.head.doc (changes_of (take n (late_room_settled s).authority.log))
      ≡ fold meaning t.head.schema t.head.doc (changes_of (take n (late_room_settled t).authority.log))
  folds-alike n =
      λ i. fold (by (documents-alike s.head.schema.spec t.head.schema.spec e.head.types i)) s.head.schema (e.head.doc i) (changes_of (take n (late-settled-alike i).authority.log))

  -- what is told of a version
  versions-alike : (n : ℕ) (text other : List ℕ) → IsVersionText s n text → IsVersionText t n other → text ≡ other
  versions-alike n text other h k =
      let size : length (late_room_settled s).authority.log ≡ length (late_room_settled t).authority.log = ap (λ (r : Room). length r.authority.log) late-settled-alike in
      by-test (nat_lt (length (late_room_settled s).authority.log) n) h (subst (λ m. MatchBool (nat_lt m n) (other ≡ past_line m) (HasVersion t n other)) (sym size) k)
    where
      by-test : (b : Bool) → MatchBool b (text ≡ past_line (length (late_room_settled s).authority.log)) (HasVersion s n text)
          → MatchBool b (other ≡ past_line (length (late_room_settled s).authority.log)) (HasVersion t n other) → text ≡ other
      by-test true x y = x ∙ sym y
      by-test false x y =
          let same : x.0 ≡ y.0 = some-same x.0 y.0 (sym x.1 ∙ folds-alike n ∙ y.1) in
          let line_same : version_line s.head.schema.spec n y.0 ≡ version_line t.head.schema.spec n y.0 =
          λ i. line (codes "at" & decimal n & compact_text (doc-written-alike s.head.schema.spec t.head.schema.spec e.head.types y.0 i)) in
          x.2 ∙ ap (version_line s.head.schema.spec n) same ∙ line_same ∙ sym y.2

-- the rooms of two sessions of the input, once their editors have settled, are one
pub one-room : (input : List ℕ) (s t : Session) → SessionIs form.Plain input (Ok s) → SessionIs form.Plain input (Ok t) → room_settled s ≡ room_settled t
one-room input s t is it = settled-alike s t (one-session form.Plain input s t is it) (session-built form.Plain input s is) (session-built form.Plain input t it)

pub one-report : (input : List ℕ) (s t : Session) → SessionIs form.Plain input (Ok s) → SessionIs form.Plain input (Ok t) → report_of s ≡ report_of t
one-report input s t is it = reports-alike s t (one-session form.Plain input s t is it) (session-built form.Plain input s is) (session-built form.Plain input t it)

pub one-late-report : (input : List ℕ) (s t : Session) → SessionIs form.Late input (Ok s) → SessionIs form.Late input (Ok t) → late_report_of s ≡ late_report_of t
one-late-report input s t is it = late-reports-alike s t (one-session form.Late input s t is it) (session-built form.Late input s is) (session-built form.Late input t it)

pub one-version : (input : List ℕ) (s t : Session) → SessionIs form.Late input (Ok s) → SessionIs form.Late input (Ok t) → (n : ℕ) (text other : List ℕ)
    → IsVersionText s n text → IsVersionText t n other → text ≡ other
one-version input s t is it =
    versions-alike s t (one-session form.Late input s t is it) (session-built form.Late input s is) (session-built form.Late input t it)
