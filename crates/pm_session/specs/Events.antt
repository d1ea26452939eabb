-- What a line makes of a room.
use Rattle.std.specs.Prelude.{ℕ, ◌+◌, nat_lt, if◌then◌else◌, Bool, true, false, List, length, slice_get, slice_set, Option, Some, None, Result, Ok, Err}
use Rattle.pm_map.specs.declared.side.Side.{Side}
use Rattle.pm_change.specs.Changes.{Meaning}
use Rattle.pm_change.specs.declared.no_step.NoStep.{NoStep}
use Rattle.pm_change.specs.declared.no_step.NoStep.TheVariants.{Range, NotThere}
use Rattle.pm_authority.specs.declared.message.Message.{Message}
use Rattle.pm_authority.specs.declared.message.Message.TheVariants.{Submit as SubmitMessage}
use Rattle.pm_authority.specs.declared.message.Answer.{Answer}
use Rattle.pm_authority.specs.declared.message.Answer.TheVariants.{Accepted, WrongVersion, StepRefused, Entries}
use Rattle.pm_authority.specs.declared.authority.Authority.{Authority}
use Rattle.pm_authority.specs.declared.running.Refusal.{Refusal}
use Rattle.pm_authority.specs.Presents.{presented}
use Rattle.pm_client.specs.declared.client.Client.{Client}
use Rattle.pm_client.specs.declared.taken.MessageKind.{MessageKind}
use Rattle.pm_client.specs.declared.taken.MessageKind.TheVariants.{Submit as Submission, Ask as Asking}
use Rattle.pm_client.specs.Clients.{edited, undone_last, redone_last, undone_event, cursor_set, named, message_of, message_at, composed, kept, taken, taken_at}
use Rattle.pm_session.specs.declared.line.Line.{Line}
use Rattle.pm_session.specs.declared.line.Act.{Act}
use Rattle.pm_session.specs.declared.line.Act.TheVariants.{Edit, Undo, Redo, UndoEvent, Cursor, Submit, Ask, Present, Take, Push, Pull, Forge, Enter}
use Rattle.pm_session.specs.declared.member.Member.{Member}
use Rattle.pm_session.specs.declared.member.Member.TheVariants.{Editor, Raw}
use Rattle.pm_session.specs.declared.outcome.AnswerSummary.{AnswerSummary}
use Rattle.pm_session.specs.declared.outcome.AnswerSummary.TheVariants.{Accepted as ToldAccepted, Version, Refused as ToldRefused, Entries as ToldEntries}
use Rattle.pm_session.specs.declared.outcome.Outcome.{Outcome}
use Rattle.pm_session.specs.declared.outcome.Outcome.TheVariants.{Made, Nothing, NoStep as NoneMade, Refused, CursorAt, Composed, Answered, Took, Exchanged}
use Rattle.pm_session.specs.declared.room.Room.{Room}

module _ {C : Type 0} where
  -- The message that a raw client of this name, which has drawn so many serials, presents by this act: `Forge` presents its
  -- steps at its version, named by the client and its next serials. No other act presents one.
  abbrev pub asked_by_raw : {Op : Type 0} → Act Op C → ℕ → ℕ → Option (Message C)
  asked_by_raw (Forge version steps) name serial = Some (SubmitMessage version (named name (serial + 1) steps))
  asked_by_raw _ name serial = None

-- A room, without where its members lie in memory: the authority, and member i at place i.
pub record State (C Rules Doc Reason : Type 0) : Type 0 where
  pub authority : Authority C Rules Doc Reason
  pub members : List (Member C Rules Doc Reason)

module _ {Rules Doc Reason C : Type 0} where
  abbrev pub state_of : Room C Rules Doc Reason → State C Rules Doc Reason
  state_of room = record { authority = room.authority; members = room.members.items }

  -- the room with this authority, and this member at place i
  abbrev pub placed : State C Rules Doc Reason → ℕ → Authority C Rules Doc Reason → Member C Rules Doc Reason → State C Rules Doc Reason
  placed s i a x = record { authority = a; members = slice_set s.members i x }

  abbrev pub by_some : State C Rules Doc Reason → ℕ → Option (Member C Rules Doc Reason)
      → (Member C Rules Doc Reason → Outcome C Rules Doc Reason × Authority C Rules Doc Reason × Member C Rules Doc Reason)
      → Outcome C Rules Doc Reason × State C Rules Doc Reason
  by_some s i None does = (NoneMade NotThere, s)
  by_some s i (Some x) does = ((does x).0, placed s i (does x).1 (does x).2)

  -- What member i makes of a room: an outcome, and the authority and itself after it. Where it isn't there, nothing is done.
  abbrev pub by_member : State C Rules Doc Reason → ℕ
      → (Member C Rules Doc Reason → Outcome C Rules Doc Reason × Authority C Rules Doc Reason × Member C Rules Doc Reason)
      → Outcome C Rules Doc Reason × State C Rules Doc Reason
  by_member s i does = by_some s i (slice_get s.members i) does

  -- the answer, as an outcome tells it
  abbrev pub told : Answer C Rules Doc Reason → AnswerSummary C Rules Doc Reason
  told (Accepted from count) = ToldAccepted from count
  told (WrongVersion n) = Version n
  told (StepRefused index reason) = ToldRefused index reason
  told (Entries since entries) = ToldEntries since (length entries)

  -- ---- the message that an act presents

  -- The message that an editor presents by this act: `Present` presents the one of its number, and `Push` and `Pull` the one
  -- that the editor composes. No other act presents one.
  abbrev pub asked_by_editor : {Op : Type 0} → Act Op C → Client C Rules Doc Reason → Option (Message C)
  asked_by_editor (Present j) c = message_at c j
  asked_by_editor (Push lost) c = Some (message_of c Submission)
  asked_by_editor (Pull lost) c = Some (message_of c Asking)
  asked_by_editor _ c = None

  -- the message that a member presents to the authority by this act, if any
  abbrev pub asked : {Op : Type 0} → Act Op C → Member C Rules Doc Reason → Option (Message C)
  asked act (Editor c) = asked_by_editor act c
  asked act (Raw name serial) = asked_by_raw act name serial

  -- ---- what an act comes to

  -- the steps are made, or the first that doesn't apply is told
  abbrev pub made : Client C Rules Doc Reason → List C → Result (Client C Rules Doc Reason) (Refusal Reason) → Outcome C Rules Doc Reason × Client C Rules Doc Reason
  made c steps (Ok next) = (Made (length steps), next)
  made c steps (Err e) = (Refused e.index e.reason, c)

  -- an event is undone or redone by so many steps, or there is none
  abbrev pub turns : Client C Rules Doc Reason → Option (ℕ × Client C Rules Doc Reason) → Outcome C Rules Doc Reason × Client C Rules Doc Reason
  turns c None = (Nothing, c)
  turns c (Some p) = (Made p.0, p.1)

  -- a message is composed
  abbrev pub composes : Client C Rules Doc Reason → MessageKind → Outcome C Rules Doc Reason × Client C Rules Doc Reason
  composes c kind = (Composed (length c.messages + 1), composed c kind)

  -- the answer to a message that was presented is kept
  abbrev pub keeps : Client C Rules Doc Reason → Option (Answer C Rules Doc Reason) → Outcome C Rules Doc Reason × Client C Rules Doc Reason
  keeps c (Some answer) = (Answered (told answer), kept c answer)
  keeps c None = (NoneMade NotThere, c)

  -- a raw client learns what its submission got, and the serials of so many steps are drawn
  abbrev pub draws : ℕ → ℕ → ℕ → Option (Answer C Rules Doc Reason) → Outcome C Rules Doc Reason × Member C Rules Doc Reason
  draws name serial count (Some answer) = (Answered (told answer), Raw name (serial + count))
  draws name serial count None = (NoneMade NotThere, Raw name serial)

  -- what a raw client makes of an act and of the answer that came; it does nothing but forge
  abbrev pub finished_by_raw : {Op : Type 0} → Act Op C → ℕ → ℕ → Option (Answer C Rules Doc Reason) → Outcome C Rules Doc Reason × Member C Rules Doc Reason
  finished_by_raw (Forge version steps) name serial answer = draws name serial (length steps) answer
  finished_by_raw _ name serial answer = (NoneMade NotThere, Raw name serial)

  -- an editor is a member
  abbrev pub as_member : Outcome C Rules Doc Reason × Client C Rules Doc Reason → Outcome C Rules Doc Reason × Member C Rules Doc Reason
  as_member p = (p.0, Editor p.1)

module _ {Rules Doc Reason C : Type 0} (m : Meaning Rules Doc Reason C) where
  -- a cursor is set, unless its position passes the document's size
  abbrev pub sets : Client C Rules Doc Reason → ℕ → Side → Outcome C Rules Doc Reason × Client C Rules Doc Reason
  sets c p side = if nat_lt (m.size c.doc) p then (NoneMade Range, c) else (CursorAt p, cursor_set c p side)

module _ {Rules Doc Reason C : Type 0} (m : Meaning Rules Doc Reason C) (rules : Rules) where
  -- An op's steps are made, with this event number, or the outcome says why there are none.
  abbrev pub edits : Client C Rules Doc Reason → Option ℕ → Result (List C) NoStep → Outcome C Rules Doc Reason × Client C Rules Doc Reason
  edits c event (Ok steps) = made c steps (edited m rules c steps event)
  edits c event (Err reason) = (NoneMade reason, c)

  -- the answer of a number is taken
  abbrev pub takes : Client C Rules Doc Reason → ℕ → Outcome C Rules Doc Reason × Client C Rules Doc Reason
  takes c n = (Took (taken_at m rules c n).0, (taken_at m rules c n).1)

  -- an editor presented a message and kept the answer: it takes it, unless it is lost
  abbrev pub ends : Bool → Client C Rules Doc Reason → Answer C Rules Doc Reason → Outcome C Rules Doc Reason × Client C Rules Doc Reason
  ends true c answer = (Exchanged (told answer) None, c)
  ends false c answer = (Exchanged (told answer) (Some (taken m rules c answer).0), (taken m rules c answer).1)

  -- an editor composed a message of this kind and presented it: it keeps the answer, and takes it unless it is lost
  abbrev pub exchanges : Client C Rules Doc Reason → MessageKind → Bool → Option (Answer C Rules Doc Reason) → Outcome C Rules Doc Reason × Client C Rules Doc Reason
  exchanges c kind lost (Some answer) = ends lost (kept (composed c kind) answer) answer
  exchanges c kind lost None = (NoneMade NotThere, c)

  -- A member's message is presented, if there is one, and the member makes an outcome and itself of the answer.
  abbrev pub by_answer : Authority C Rules Doc Reason → Option (Message C)
      → (Option (Answer C Rules Doc Reason) → Outcome C Rules Doc Reason × Member C Rules Doc Reason)
      → Outcome C Rules Doc Reason × Authority C Rules Doc Reason × Member C Rules Doc Reason
  by_answer a None finish = ((finish None).0, a, (finish None).1)
  by_answer a (Some message) finish =
      let p = presented m rules a message in
      ((finish (Some p.0)).0, p.1, (finish (Some p.0)).1)

  -- A member exchanges a message of this kind: it composes and presents it, and keeps and takes the answer. A raw client does
  -- nothing.
  abbrev pub member_exchanges : Authority C Rules Doc Reason → MessageKind → Member C Rules Doc Reason
      → Outcome C Rules Doc Reason × Authority C Rules Doc Reason × Member C Rules Doc Reason
  member_exchanges a kind (Editor c) = by_answer a (Some (message_of c kind)) (λ answer. as_member (exchanges c kind false answer))
  member_exchanges a kind (Raw name serial) = (NoneMade NotThere, a, Raw name serial)

  module _ {Op : Type 0} (makes : Doc → Op → Result (List C) NoStep) where
    -- what an editor makes of an act, and of the answer where the act presents a message; it does not forge
    abbrev pub finished_by_editor : Act Op C → Client C Rules Doc Reason → Option (Answer C Rules Doc Reason) → Outcome C Rules Doc Reason × Client C Rules Doc Reason
    finished_by_editor (Edit op event) c answer = edits c event (makes c.doc op)
    finished_by_editor Undo c answer = turns c (undone_last m rules c)
    finished_by_editor Redo c answer = turns c (redone_last m rules c)
    finished_by_editor (UndoEvent number) c answer = turns c (undone_event m rules c number)
    finished_by_editor (Cursor p side) c answer = sets m c p side
    finished_by_editor Submit c answer = composes c Submission
    finished_by_editor Ask c answer = composes c Asking
    finished_by_editor (Present j) c answer = keeps c answer
    finished_by_editor (Take n) c answer = takes c n
    finished_by_editor (Push lost) c answer = exchanges c Submission lost answer
    finished_by_editor (Pull lost) c answer = exchanges c Asking lost answer
    finished_by_editor (Forge version steps) c answer = (NoneMade NotThere, c)
    finished_by_editor Enter c answer = (NoneMade NotThere, c)

    -- The outcome of an act by a member, and the member after it, from the answer that came. None came where the act presents
    -- no message.
    abbrev pub finished : Act Op C → Member C Rules Doc Reason → Option (Answer C Rules Doc Reason) → Outcome C Rules Doc Reason × Member C Rules Doc Reason
    finished act (Editor c) answer = as_member (finished_by_editor act c answer)
    finished act (Raw name serial) answer = finished_by_raw act name serial answer

    -- what a member does by this act at an authority
    abbrev pub acted : Authority C Rules Doc Reason → Act Op C → Member C Rules Doc Reason
        → Outcome C Rules Doc Reason × Authority C Rules Doc Reason × Member C Rules Doc Reason
    acted a act x = by_answer a (asked act x) (finished act x)

    -- the outcome of a line, and the room after it
    abbrev pub played : State C Rules Doc Reason → Line Op C → Outcome C Rules Doc Reason × State C Rules Doc Reason
    played s line = by_member s line.client (acted s.authority line.act)
