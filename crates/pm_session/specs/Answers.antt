-- What each message that is presented gets, and why.
use Rattle.std.specs.Prelude.{◌≡◌, ◌↔◌, ℕ, zero, suc, ◌+◌, length, slice_get, Option, Some}
use Rattle.pm_change.specs.Changes.{Meaning}
use Rattle.pm_authority.specs.Causes.{IsAnswer, IsNext}
use Rattle.pm_authority.specs.declared.authority.Authority.{Authority}
use Rattle.pm_authority.specs.declared.message.Message.{Message}
use Rattle.pm_authority.specs.declared.message.Message.TheVariants.{Submit as SubmitMessage}
use Rattle.pm_authority.specs.declared.message.Answer.{Answer}
use Rattle.pm_client.specs.declared.client.Client.{Client}
use Rattle.pm_client.specs.declared.taken.MessageKind.{MessageKind}
use Rattle.pm_client.specs.declared.taken.MessageKind.TheVariants.{Submit as Submission, Ask as Asking}
use Rattle.pm_client.specs.declared.taken.Taken.{Taken}
use Rattle.pm_client.specs.Clients.{named, message_of, message_at}
use Rattle.pm_session.specs.declared.line.Act.{Act}
use Rattle.pm_session.specs.declared.line.Act.TheVariants.{Present, Push, Pull, Forge}
use Rattle.pm_session.specs.declared.member.Member.{Member}
use Rattle.pm_session.specs.declared.member.Member.TheVariants.{Editor, Raw}
use Rattle.pm_session.specs.declared.line.Line.{Line}
use Rattle.pm_session.specs.declared.outcome.Outcome.{Outcome}
use Rattle.pm_session.specs.declared.outcome.Outcome.TheVariants.{Answered, Exchanged}
use Rattle.pm_session.specs.Events.{State, told}
use Rattle.pm_session.specs.Holding.{RoomHolds}
use Rattle.pm_session.specs.Refusals.{RefusesNoStep, EditorGetsNoRefusal}
use Rattle.pm_session.specs.Restoring.{Restores}
use Rattle.pm_session.specs.Sessions.{exchanged, brought_up, in_turn}
use Rattle.pm_session.specs.Standing.{CursorsStay}
use Rattle.pm_session.specs.Telling.{MemberTold}
use Rattle.pm_session.specs.Tying.{MemberTied}

module _ {Rules Doc Reason C : Type 0} (m : Meaning Rules Doc Reason C) (rules : Rules) where
  -- A message was presented. The answer is the one whose cause holds: Accepted exactly where the message's version is the
  -- log's length and its steps apply one after another. Where it is Accepted, the log has exactly the message's steps more.
  -- After any other answer the authority is as before.
  pub record Gets (a : Authority C Rules Doc Reason) (message : Message C) (answer : Answer C Rules Doc Reason) (new : Authority C Rules Doc Reason) : Type 0 where
    pub cause : (x : Answer C Rules Doc Reason) → (answer ≡ x) ↔ IsAnswer m rules a message x
    pub next : IsNext m rules a message answer new

  -- A line of this act by an editor. Where the act presents a message, the message gets an answer, and the outcome tells that
  -- answer: `Present` presents the message of its number, and `Push` and `Pull` the one that the editor composes. No other
  -- act changes the authority.
  abbrev pub AnsweredBy : {Op : Type 0} → Act Op C → Authority C Rules Doc Reason → Client C Rules Doc Reason → Outcome C Rules Doc Reason → Authority C Rules Doc Reason → Type 0
  AnsweredBy (Present j) a c o new =
      (message : Message C) × (answer : Answer C Rules Doc Reason) × (message_at c j ≡ Some message) × Gets a message answer new × (o ≡ Answered (told answer))
  AnsweredBy (Push lost) a c o new =
      (answer : Answer C Rules Doc Reason) × (taken : Option Taken) × Gets a (message_of c Submission) answer new × (o ≡ Exchanged (told answer) taken)
  AnsweredBy (Pull lost) a c o new =
      (answer : Answer C Rules Doc Reason) × (taken : Option Taken) × Gets a (message_of c Asking) answer new × (o ≡ Exchanged (told answer) taken)
  AnsweredBy _ a c o new = new ≡ a

  -- A line of this act by a raw client of this name that has drawn so many serials. What it forges is a submission at the
  -- line's version, whose steps have the client's name and its next serials. The submission gets an answer, which may refuse
  -- a step, and the outcome tells that answer. No other act changes the authority.
  abbrev pub AnsweredByRaw : {Op : Type 0} → Act Op C → Authority C Rules Doc Reason → ℕ → ℕ → Outcome C Rules Doc Reason → Authority C Rules Doc Reason → Type 0
  AnsweredByRaw (Forge version steps) a name serial o new =
      (answer : Answer C Rules Doc Reason) × Gets a (SubmitMessage version (named name (serial + 1) steps)) answer new × (o ≡ Answered (told answer))
  AnsweredByRaw _ a name serial o new = new ≡ a

  -- so it is with a line by a member
  abbrev pub MemberAnswered : {Op : Type 0} → Act Op C → Authority C Rules Doc Reason → Member C Rules Doc Reason → Outcome C Rules Doc Reason → Authority C Rules Doc Reason → Type 0
  MemberAnswered act a (Editor c) o new = AnsweredBy act a c o new
  MemberAnswered act a (Raw name serial) o new = AnsweredByRaw act a name serial o new

  -- A line from one room to the next, and its outcome. The line's member is there, and what it presented was answered so. The
  -- outcome tells what became of the member, and no other member changed. The steps of an undo or a redo are tied to those of its
  -- event. No message of an editor is refused for a step. Cursors stay before their tokens. An undo or a redo, also of
  -- a numbered event, gives the document before its event, where nothing has changed since.
  pub record LineHolds {Op : Type 0} (s : State C Rules Doc Reason) (line : Line Op C) (o : Outcome C Rules Doc Reason) (t : State C Rules Doc Reason) : Type 0 where
    pub member : Member C Rules Doc Reason
    pub at : slice_get s.members line.client ≡ Some member
    pub answered : MemberAnswered line.act s.authority member o t.authority
    pub next : Member C Rules Doc Reason
    pub next_at : slice_get t.members line.client ≡ Some next
    pub told : MemberTold m rules line.act s.authority o member next
    pub others : (i : ℕ) → (i ≡ line.client → ⊥) → slice_get t.members i ≡ slice_get s.members i
    pub tied : MemberTied m rules line.act t.authority o member next
    pub unrefused : EditorGetsNoRefusal line.act o
    pub cursors : CursorsStay m s t
    pub restores : Restores m rules s line t

  -- What an editor's message got in an exchange of this kind: an answer, for its cause, which refuses no step.
  pub record IsExchanged (kind : MessageKind) (a : Authority C Rules Doc Reason) (c : Client C Rules Doc Reason) (new : Authority C Rules Doc Reason) : Type 0 where
    pub answer : Answer C Rules Doc Reason
    pub gets : Gets a (message_of c kind) answer new
    pub unrefused : RefusesNoStep answer

  -- An exchange of this kind by member i, from one room to the next, of which all holds that holds of a room. A raw client
  -- exchanges nothing, and the room stays as it is.
  pub record ExchangeHolds (kind : MessageKind) (i : ℕ) (s t : State C Rules Doc Reason) : Type 0 where
    pub answered : (c : Client C Rules Doc Reason) → slice_get s.members i ≡ Some (Editor c) → IsExchanged kind s.authority c t.authority
    pub passed_by : (name serial : ℕ) → slice_get s.members i ≡ Some (Raw name serial) → t ≡ s
    pub cursors : CursorsStay m s t
    pub room : RoomHolds m rules t

  -- member i asks and then submits
  pub record BringingHolds (i : ℕ) (s t : State C Rules Doc Reason) : Type 0 where
    pub asks : ExchangeHolds Asking i s (exchanged m rules Asking i s)
    pub submits : ExchangeHolds Submission i (exchanged m rules Asking i s) t

  -- n members from i on, in order, each do this, and so it is from the room before each turn to the one after it
  abbrev pub AllTurns : (ℕ → State C Rules Doc Reason → State C Rules Doc Reason → Type 0) → (ℕ → State C Rules Doc Reason → State C Rules Doc Reason)
      → ℕ → ℕ → State C Rules Doc Reason → Type 0
  AllTurns holds does i zero s = Unit {0}
  AllTurns holds does i (suc n) s = holds i s (does i s) × AllTurns holds does (i + 1) n (does i s)

  -- Each exchange by which a room settles: each editor asks and submits, and then each asks.
  pub record SettlingHolds (s : State C Rules Doc Reason) : Type 0 where
    pub up : AllTurns BringingHolds (brought_up m rules) 0 (length s.members) s
    pub last : AllTurns (ExchangeHolds Asking) (exchanged m rules Asking) 0 (length s.members) (in_turn (brought_up m rules) 0 (length s.members) s)
