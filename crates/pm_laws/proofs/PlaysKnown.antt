-- No line of a session is told the reason that its schema does not know a step.
use Rattle.std.specs.List.{AllByRecursion as Each}
use Rattle.std.specs.Prelude.{Option, Some, None, Result, Ok, Err, slice_get, nat_lt}
use Rattle.std.proofs.Common.{◌≡◌, ℕ, zero, suc, ◌+◌, Bool, true, false, cond, List, [], ◌∷◌, length, refl, sym, ap, subst, ◌∙◌}
use Rattle.pm_map.specs.declared.side.Side.{Side}
use Rattle.pm_change.specs.declared.no_step.NoStep.{NoStep}
use Rattle.pm_change.specs.declared.no_step.NoStep.TheVariants.{Range}
use Rattle.pm_authority.specs.declared.authority.Authority.{Authority}
use Rattle.pm_authority.specs.declared.message.Message.{Message}
use Rattle.pm_authority.specs.declared.message.Message.TheVariants.{Submit as SubmitMessage}
use Rattle.pm_authority.specs.declared.message.Answer.{Answer}
use Rattle.pm_authority.specs.declared.message.Answer.TheVariants.{Accepted, WrongVersion, StepRefused, Entries}
use Rattle.pm_authority.specs.declared.named.Named.{Named}
use Rattle.pm_authority.specs.declared.running.Refusal.{Refusal}
use Rattle.pm_authority.specs.Presents.{presented}
use Rattle.pm_authority.specs.Runs.{then_run, run}
use Rattle.pm_client.specs.declared.client.Client.{Client}
use Rattle.pm_client.specs.declared.taken.MessageKind.{MessageKind}
use Rattle.pm_client.specs.declared.taken.MessageKind.TheVariants.{Submit as Submission, Ask as Asking}
use Rattle.pm_client.specs.Clients.{named, tried, edited, composed, kept, cursor_set, undone_last, redone_last, undone_event}
use Rattle.pm_tokens.specs.Tokens.{Doc}
use Rattle.pm_schema.specs.declared.schema.Schema.{Schema}
use Rattle.pm_schema.specs.declared.spec.SchemaSpec.{SchemaSpec}
use Rattle.pm_schema.specs.Documents.{documents_of}
use Rattle.pm_meaning.specs.declared.reason.Reason.{Reason}
use Rattle.pm_meaning.specs.declared.reason.Reason.TheVariants.{NotInSchema}
use Rattle.pm_meaning.specs.Steps.{Step}
use Rattle.pm_meaning.specs.Outcomes.{outcome}
use Rattle.pm_apply.specs.Changes.{meaning}
use Rattle.pm_edit.specs.Edits.{Answer as EditAnswer}
use Rattle.pm_edit.specs.Ops.{answer_of, one, steps_of}
use Rattle.pm_ops.specs.declared.op.Op.{Op}
use Rattle.pm_making.specs.Making.{makes}
use Rattle.pm_head.specs.declared.form.Form.TheVariants as form
use Rattle.pm_session.specs.declared.line.Act.{Act}
use Rattle.pm_session.specs.declared.line.Act.TheVariants.{Edit, Undo, Redo, UndoEvent, Cursor, Submit, Ask, Present, Take, Push, Pull, Forge, Enter}
use Rattle.pm_session.specs.declared.line.Line.{Line}
use Rattle.pm_session.specs.declared.member.Member.{Member}
use Rattle.pm_session.specs.declared.member.Member.TheVariants.{Editor, Raw}
use Rattle.pm_session.specs.declared.outcome.AnswerSummary.{AnswerSummary}
use Rattle.pm_session.specs.declared.outcome.AnswerSummary.TheVariants.{Accepted as ToldAccepted, Version, Refused as ToldRefused, Entries as ToldEntries}
use Rattle.pm_session.specs.declared.outcome.Outcome.TheVariants.{Made, Nothing, NoStep as NoneMade, Refused, CursorAt, Composed, Answered, Took, Exchanged, Entered}
use Rattle.pm_session.specs.Answers.{Gets, MemberAnswered, LineHolds}
use Rattle.pm_session.specs.Events.{told, by_some, made, turns, keeps, draws, finished_by_raw, sets, edits, ends, exchanges, by_answer, asked, finished_by_editor, finished, acted, played}
use Rattle.pm_session.specs.Refusals.{TellsNoRefusal, GetsNoRefusal, EditorGetsNoRefusal}
use Rattle.pm_session.specs.Sessions.{session}
use Rattle.pm_session.specs.Telling.{MemberTold}
use Rattle.pm_call.specs.Playing.{Room, LineOutcome, room_of, room_after}
use Rattle.pm_call.proofs.Reports.{all_sound}
use Rattle.pm_laws.specs.Unmet.{TellsOther, IsOther, NoneIsToldUnknown}
use Rattle.pm_laws.specs.NoneUnknown.{KnowsOp, IsNotUnknown}
use Rattle.pm_laws.proofs.KnownOps.{known-not, ops-not}
use Rattle.pm_laws.proofs.LinesKnown.{KnownStep, KnowsAct, session-known}

abbrev Not : Reason → Type 0
Not r = r ≡ NotInSchema → ⊥

-- the reason of a step of an op that does not apply is another
abbrev OpOther : LineOutcome → Type 0
OpOther (Refused index reason) = Not reason
OpOther o = Unit {0}

-- what is told of an answer, if something is, is another
abbrev AnswerOther : LineOutcome → Type 0
AnswerOther (Answered told) = TellsOther told
AnswerOther (Exchanged told taken) = TellsOther told
AnswerOther o = Unit {0}

both-other : (o : LineOutcome) → OpOther o → AnswerOther o → IsOther o
both-other (Refused index reason) h k = h
both-other (Answered told) h k = k
both-other (Exchanged told taken) h k = k
both-other (Made n) h k = tt
both-other Nothing h k = tt
both-other (NoneMade reason) h k = tt
both-other (CursorAt p) h k = tt
both-other (Composed n) h k = tt
both-other (Took taken) h k = tt
both-other (Entered n) h k = tt

-- ---- what an op comes to

module _ (schema : Schema) where
  abbrev AnEditor : Type 0
  AnEditor = Client Step Schema Doc Reason

  run-not : (d : Doc) (n : Named Step) (e : Refusal Reason) → IsNotUnknown (documents_of schema.spec) d n.change → run meaning schema d 0 (n ∷ []) ≡ Err e → Not e.reason
  run-not d n e h k = by (outcome (documents_of schema.spec) n.change d) refl k
    where
      by : (r : Result Doc Reason) → outcome (documents_of schema.spec) n.change d ≡ r → then_run meaning schema r 0 (λ z. run meaning schema z 1 []) ≡ Err e → Not e.reason
      by (Ok z) is f = absurd (cc)
      by (Err x) is f =
          let same : record { index = 0; reason = x } ≡ e = cc in
          subst (λ (z : Refusal Reason). Not z.reason) same (λ g. h (is ∙ ap Err g))

  tried-err : (c : AnEditor) (steps : List Step) (event : Option ℕ) (x : Result Doc (Refusal Reason)) (e : Refusal Reason) → tried meaning schema c steps event x ≡ Err e → x ≡ Err e
  tried-err c steps event (Ok d) e h = absurd (cc)
  tried-err c steps event (Err y) e h = cc

  made-other : (c : AnEditor) (steps : List Step) (x : Result AnEditor (Refusal Reason)) → ((e : Refusal Reason) → x ≡ Err e → Not e.reason) → OpOther (made c steps x).0
  made-other c steps (Ok next) h = tt
  made-other c steps (Err e) h = h e refl

  steps-other : (c : AnEditor) (event : Option ℕ) (r : Result (List Step) NoStep) → ((steps : List Step) → r ≡ Ok steps → (x : Step) × (steps ≡ x ∷ []) × IsNotUnknown (documents_of schema.spec) c.doc x)
      → OpOther (edits meaning schema c event r).0
  steps-other c event (Err reason) h = tt
  steps-other c event (Ok steps) h =
      let one = h steps refl in
      subst (λ l. OpOther (made c l (edited meaning schema c l event)).0) (sym one.1)
      (made-other c (one.0 ∷ []) (edited meaning schema c (one.0 ∷ []) event)
      (λ e f. run-not c.doc (record { name = record { client = c.name; serial = c.serials + 1 }; change = one.0 }) e one.2
      (tried-err c (one.0 ∷ []) event (run meaning schema c.doc 0 (named c.name (c.serials + 1) (one.0 ∷ []))) e f)))

  turns-other : (c : AnEditor) (x : Option (ℕ × AnEditor)) → OpOther (turns c x).0
  turns-other c None = tt
  turns-other c (Some p) = tt

  sets-other : (c : AnEditor) (p : ℕ) (side : Side) → OpOther (sets meaning c p side).0
  sets-other c p side = by (nat_lt (length c.doc.tokens) p)
    where
      by : (b : Bool) → (let q : LineOutcome × AnEditor = cond b (NoneMade Range, c) (CursorAt p, cursor_set c p side) in OpOther q.0)
      by true = tt
      by false = tt

  keeps-other : (c : AnEditor) (x : Option (Answer Step Schema Doc Reason)) → OpOther (keeps c x).0
  keeps-other c (Some answer) = tt
  keeps-other c None = tt

  ends-other : (lost : Bool) (c : AnEditor) (answer : Answer Step Schema Doc Reason) → OpOther (ends meaning schema lost c answer).0
  ends-other true c answer = tt
  ends-other false c answer = tt

  exchanges-other : (c : AnEditor) (kind : MessageKind) (lost : Bool) (x : Option (Answer Step Schema Doc Reason)) → OpOther (exchanges meaning schema c kind lost x).0
  exchanges-other c kind lost (Some answer) = ends-other lost (kept (composed c kind) answer) answer
  exchanges-other c kind lost None = tt

  -- an op gives one step
  one-step : (d : Doc) (o : Op) → KnowsOp (documents_of schema.spec) o → (steps : List Step) → makes schema d o ≡ Ok steps → (x : Step) × (steps ≡ x ∷ []) × IsNotUnknown (documents_of schema.spec) d x
  unfolding steps_of
  one-step d o k steps h = by (answer_of schema d o) refl h
    where
      by : (a : EditAnswer) → answer_of schema d o ≡ a → one a ≡ Ok steps → (x : Step) × (steps ≡ x ∷ []) × IsNotUnknown (documents_of schema.spec) d x
      by (Ok c) is e =
          let same : c ∷ [] ≡ steps = cc in
          let given : one (answer_of schema d o) ≡ Ok (c ∷ []) = ap one is in
          (c, sym same, (ops-not schema d o (c ∷ []) k given).0)
      by (Err r) is e = absurd (cc)

  editor-other : (act : Act Op Step) (c : AnEditor) (x : Option (Answer Step Schema Doc Reason)) → KnowsAct schema.spec act → OpOther (finished_by_editor meaning schema (makes schema) act c x).0
  editor-other (Edit o event) c x k = steps-other c event (makes schema c.doc o) (one-step c.doc o k)
  editor-other Undo c x k = turns-other c (undone_last meaning schema c)
  editor-other Redo c x k = turns-other c (redone_last meaning schema c)
  editor-other (UndoEvent number) c x k = turns-other c (undone_event meaning schema c number)
  editor-other (Cursor p side) c x k = sets-other c p side
  editor-other Submit c x k = tt
  editor-other Ask c x k = tt
  editor-other (Present j) c x k = keeps-other c x
  editor-other (Take n) c x k = tt
  editor-other (Push lost) c x k = exchanges-other c Submission lost x
  editor-other (Pull lost) c x k = exchanges-other c Asking lost x
  editor-other (Forge version steps) c x k = tt
  editor-other Enter c x k = tt

  draws-other : (name serial count : ℕ) (x : Option (Answer Step Schema Doc Reason)) → OpOther (draws name serial count x).0
  draws-other name serial count (Some answer) = tt
  draws-other name serial count None = tt

  raw-other : (act : Act Op Step) (name serial : ℕ) (x : Option (Answer Step Schema Doc Reason)) → OpOther (finished_by_raw act name serial x).0
  raw-other (Forge version steps) name serial x = draws-other name serial (length steps) x
  raw-other (Edit op event) name serial x = tt
  raw-other Undo name serial x = tt
  raw-other Enter name serial x = tt
  raw-other Redo name serial x = tt
  raw-other (UndoEvent number) name serial x = tt
  raw-other (Cursor p side) name serial x = tt
  raw-other Submit name serial x = tt
  raw-other Ask name serial x = tt
  raw-other (Present j) name serial x = tt
  raw-other (Take n) name serial x = tt
  raw-other (Push lost) name serial x = tt
  raw-other (Pull lost) name serial x = tt

  finished-other : (act : Act Op Step) (y : Member Step Schema Doc Reason) (x : Option (Answer Step Schema Doc Reason)) → KnowsAct schema.spec act → OpOther (finished meaning schema (makes schema) act y x).0
  finished-other act (Editor c) x k = editor-other act c x k
  finished-other act (Raw name serial) x k = raw-other act name serial x

  answer-other : (a : Authority Step Schema Doc Reason) (act : Act Op Step) (y : Member Step Schema Doc Reason) (m : Option (Message Step)) → KnowsAct schema.spec act
      → OpOther (by_answer meaning schema a m (finished meaning schema (makes schema) act y)).0
  answer-other a act y None k = finished-other act y None k
  answer-other a act y (Some message) k = finished-other act y (Some (presented meaning schema a message).0) k

  played-other : (t : Room) (l : Line Op Step) → KnowsAct schema.spec l.act → OpOther (played meaning schema (makes schema) t l).0
  played-other t l k = by (slice_get t.members l.client)
    where
      by : (o : Option (Member Step Schema Doc Reason)) → OpOther (by_some t l.client o (acted meaning schema (makes schema) t.authority l.act)).0
      by None = tt
      by (Some y) = answer-other t.authority l.act y (asked l.act y) k

  -- ---- a line among lines

  record IsPlayed (lines : List (Line Op Step)) (k : ℕ) (o : LineOutcome) : Type 0 where
    pub room : Room
    pub line : Line Op Step
    pub at : slice_get lines k ≡ Some line
    pub is : (played meaning schema (makes schema) room line).0 ≡ o

  some-same : (x y : LineOutcome) → Some x ≡ Some y → x ≡ y
  some-same x y h = cc

  is-played : (t : Room) (lines : List (Line Op Step)) (k : ℕ) (o : LineOutcome) → slice_get (session meaning schema (makes schema) t lines).0 k ≡ Some o → IsPlayed lines k o
  is-played t [] k o h = absurd (cc)
  is-played t (l ∷ lines) zero o h = record { room = t; line = l; at = refl; is = some-same _ o h }
  is-played t (l ∷ lines) (suc k) o h =
      let p = is-played (played meaning schema (makes schema) t l).1 lines k o h in
      record { room = p.room; line = p.line; at = p.at; is = p.is }

knows-at : (s : SchemaSpec) (lines : List (Line Op Step)) (k : ℕ) (l : Line Op Step) → Each (λ (x : Line Op Step). KnowsAct s x.act) lines → slice_get lines k ≡ Some l → KnowsAct s l.act
knows-at s [] k l h e = absurd (cc)
knows-at s (x ∷ lines) zero l h e = let same : x ≡ l = cc in subst (λ (z : Line Op Step). KnowsAct s z.act) same h.0
knows-at s (x ∷ lines) (suc k) l h e = knows-at s lines k l h.1 e

-- ---- what is told of an answer

tells-other : (x : AnswerSummary Step Schema Doc Reason) → TellsNoRefusal x → TellsOther x
tells-other (ToldAccepted from count) h = tt
tells-other (Version n) h = tt
tells-other (ToldRefused index reason) h = absurd h
tells-other (ToldEntries since count) h = tt

editor-answer : (o : LineOutcome) → GetsNoRefusal o → AnswerOther o
editor-answer (Refused index reason) h = tt
editor-answer (Answered told) h = tells-other told h
editor-answer (Exchanged told taken) h = tells-other told h
editor-answer (Made n) h = tt
editor-answer Nothing h = tt
editor-answer (NoneMade reason) h = tt
editor-answer (CursorAt p) h = tt
editor-answer (Composed n) h = tt
editor-answer (Took taken) h = tt
editor-answer (Entered n) h = tt

module _ (schema : Schema) where
  named-known : (client serial : ℕ) (steps : List Step) (i : ℕ) (n : Named Step) → Each (KnownStep schema.spec) steps → slice_get (named client serial steps) i ≡ Some n → KnownStep schema.spec n.change
  named-known client serial [] i n h e = absurd (cc)
  named-known client serial (c ∷ steps) zero n h e =
      let same : record { name = record { client = client; serial = serial }; change = c } ≡ n = cc in
      subst (λ (z : Named Step). KnownStep schema.spec z.change) same h.0
  named-known client serial (c ∷ steps) (suc i) n h e = named-known client (serial + 1) steps i n h.1 e

  forged-other : (a new : Authority Step Schema Doc Reason) (version client serial : ℕ) (steps : List Step) (answer : Answer Step Schema Doc Reason) → Each (KnownStep schema.spec) steps
      → Gets meaning schema a (SubmitMessage version (named client serial steps)) answer new → TellsOther (told answer)
  forged-other a new version client serial steps (Accepted from count) k g = tt
  forged-other a new version client serial steps (WrongVersion n) k g = tt
  forged-other a new version client serial steps (Entries since entries) k g = tt
  forged-other a new version client serial steps (StepRefused index reason) k g =
      let stops = ((g.cause (StepRefused index reason)).0 refl).1 in
      let known : KnownStep schema.spec stops.step.change = named-known client serial steps index stops.step k stops.placed in
      λ e. known-not (documents_of schema.spec) stops.reached stops.step.change known (stops.refused ∙ ap Err e)

  -- a line that forges
  forge-answer : (version : ℕ) (steps : List Step) (a new : Authority Step Schema Doc Reason) (x y : Member Step Schema Doc Reason) (o : LineOutcome) → Each (KnownStep schema.spec) steps
      → MemberAnswered meaning schema {Op = Op} (Forge version steps) a x o new → MemberTold meaning schema {Op = Op} (Forge version steps) a o x y → AnswerOther o
  forge-answer version steps a new (Editor c) y o k g t = subst AnswerOther (sym t.2.0) tt
  forge-answer version steps a new (Raw name serial) y o k g t = subst AnswerOther (sym g.2) (forged-other a new version name (serial + 1) steps g.0 k g.1)

  line-answer : (l : Line Op Step) (s t : Room) (o : LineOutcome) → KnowsAct schema.spec l.act → LineHolds meaning schema s l o t → AnswerOther o
  line-answer l s t o k h = by l.act k h.answered h.told h.unrefused
    where
      by : (act : Act Op Step) → KnowsAct schema.spec act → MemberAnswered meaning schema act s.authority h.member o t.authority → MemberTold meaning schema act s.authority o h.member h.next → EditorGetsNoRefusal act o → AnswerOther o
      by (Forge version steps) k g w u = forge-answer version steps s.authority t.authority h.member h.next o k g w
      by (Edit op event) k g w u = editor-answer o (u refl)
      by Undo k g w u = editor-answer o (u refl)
      by Redo k g w u = editor-answer o (u refl)
      by (UndoEvent number) k g w u = editor-answer o (u refl)
      by (Cursor p side) k g w u = editor-answer o (u refl)
      by Submit k g w u = editor-answer o (u refl)
      by Ask k g w u = editor-answer o (u refl)
      by (Present j) k g w u = editor-answer o (u refl)
      by (Take n) k g w u = editor-answer o (u refl)
      by (Push lost) k g w u = editor-answer o (u refl)
      by (Pull lost) k g w u = editor-answer o (u refl)
      by Enter k g w u = editor-answer o (u refl)

-- ---- every line

pub none-told : (input : List ℕ) → NoneIsToldUnknown input
none-told input s is k o at =
    let known = session-known form.Plain input s is in
    let p = is-played s.head.schema (room_of s) s.lines k o at in
    let knows : KnowsAct s.head.schema.spec p.line.act = knows-at s.head.schema.spec s.lines k p.line known.lines p.at in
    let plays = (all_sound input s is).lines k p.line p.at in
    let same : plays.outcome ≡ o = some-same s.head.schema plays.outcome o (sym plays.told ∙ at) in
    let by_op : OpOther o = subst OpOther p.is (played-other s.head.schema p.room p.line knows) in
    let by_answer : AnswerOther o = subst AnswerOther same (line-answer s.head.schema p.line (room_after s k) (room_after s (k + 1)) plays.outcome knows plays.holds) in
    both-other o by_op by_answer
