-- What each word of an outcome tells of the line's member.
use Rattle.std.specs.Prelude.{◌≡◌, ◌≢◌, ℕ, ◌+◌, ◌≤◌, ◌<◌, Bool, true, false, List, [], ◌++◌, length, drop, Option, Some, None}
use Rattle.std.specs.List.{AllByRecursion as Each}
use Rattle.pm_map.specs.declared.side.Side.{Side}
use Rattle.pm_change.specs.Changes.{Meaning}
use Rattle.pm_change.specs.declared.no_step.NoStep.TheVariants.{Range, NotThere}
use Rattle.pm_authority.specs.Causes.{IsAnswer}
use Rattle.pm_authority.specs.declared.named.Named.{Named}
use Rattle.pm_authority.specs.declared.authority.Authority.{Authority}
use Rattle.pm_authority.specs.declared.message.Message.{Message}
use Rattle.pm_authority.specs.declared.message.Answer.{Answer}
use Rattle.pm_client.specs.declared.client.Client.{Client}
use Rattle.pm_client.specs.declared.taken.MessageKind.{MessageKind}
use Rattle.pm_client.specs.declared.taken.MessageKind.TheVariants.{Submit as Submission, Ask as Asking}
use Rattle.pm_client.specs.declared.taken.Taken.{Taken}
use Rattle.pm_client.specs.declared.taken.Taken.TheVariants.{Confirmed, Rebased, Stale, Refused as TakenRefused}
use Rattle.pm_client.specs.Causes.{IsTaken}
use Rattle.pm_client.specs.Clients.{message_of, message_at, answer_at, composed, kept, cursor_set}
use Rattle.pm_session.specs.declared.line.Act.{Act}
use Rattle.pm_session.specs.declared.line.Act.TheVariants.{Edit, Undo, Redo, UndoEvent, Cursor, Submit, Ask, Present, Take, Push, Pull, Forge, Enter}
use Rattle.pm_session.specs.declared.member.Member.{Member}
use Rattle.pm_session.specs.declared.member.Member.TheVariants.{Editor, Raw}
use Rattle.pm_session.specs.declared.outcome.Outcome.{Outcome}
use Rattle.pm_session.specs.declared.outcome.Outcome.TheVariants.{Made, Nothing, NoStep, Refused, CursorAt, Composed, Answered, Took, Exchanged}
use Rattle.pm_session.specs.Events.{told}

module _ {Rules Doc Reason C : Type 0} where
  -- so many pending steps more, after those that there were
  abbrev pub HasMore : ℕ → Client C Rules Doc Reason → Client C Rules Doc Reason → Type 0
  HasMore k c d = (more : List (Named C)) × (d.pending ≡ c.pending ++ more) × (length more ≡ k)

  -- An op by an editor: `Made` tells how many pending steps more there are. Else nothing changed.
  abbrev pub TellsEdit : Outcome C Rules Doc Reason → Client C Rules Doc Reason → Client C Rules Doc Reason → Type 0
  TellsEdit (Made k) c d = HasMore k c d
  TellsEdit (NoStep reason) c d = d ≡ c
  TellsEdit (Refused index reason) c d = d ≡ c
  TellsEdit o c d = ⊥

  -- An undo or a redo, with when there is no event: `Made` tells how many pending steps more there are, and `Nothing` that there
  -- was no event, and nothing changed.
  abbrev pub TellsTurn : Type 0 → Outcome C Rules Doc Reason → Client C Rules Doc Reason → Client C Rules Doc Reason → Type 0
  TellsTurn none (Made k) c d = (none → ⊥) × HasMore k c d
  TellsTurn none Nothing c d = none × (d ≡ c)
  TellsTurn none o c d = ⊥

  -- A cursor, in a document of this size: `CursorAt` tells where the one cursor more stands. The position is within the size, or
  -- `Range` is told and nothing changed.
  abbrev pub TellsCursor : ℕ → ℕ → Side → Outcome C Rules Doc Reason → Client C Rules Doc Reason → Client C Rules Doc Reason → Type 0
  TellsCursor size p side (CursorAt q) c d = (p ≤ size) × (q ≡ p) × (d ≡ cursor_set c p side)
  TellsCursor size p side (NoStep reason) c d = (size < p) × (reason ≡ Range) × (d ≡ c)
  TellsCursor size p side o c d = ⊥

  -- A message of this kind: `Composed` tells its number, that of the last one, which is how many there are.
  abbrev pub TellsComposed : MessageKind → Outcome C Rules Doc Reason → Client C Rules Doc Reason → Client C Rules Doc Reason → Type 0
  TellsComposed kind (Composed j) c d = (d ≡ composed c kind) × (j ≡ length d.messages)
  TellsComposed kind o c d = ⊥

  -- How far an editor went by what an answer was taken as.
  abbrev pub GoesBy : Taken → Client C Rules Doc Reason → Client C Rules Doc Reason → Type 0
  GoesBy (Confirmed k) c d = (d.version ≡ c.version + k) × (d.pending ≡ drop k c.pending)
  GoesBy (Rebased own foreign dropped) c d = d.version ≡ c.version + (own + foreign)
  GoesBy Stale c d = d ≡ c
  GoesBy TakenRefused c d = d ≡ c

module _ {Rules Doc Reason C : Type 0} (m : Meaning Rules Doc Reason C) (rules : Rules) where
  -- a message of a number was presented: what is told is the authority's answer in short, and the editor has kept that answer
  abbrev pub TellsKept : Authority C Rules Doc Reason → ℕ → Outcome C Rules Doc Reason → Client C Rules Doc Reason → Client C Rules Doc Reason → Type 0
  TellsKept a j (Answered short) c d =
      (message : Message C) × (answer : Answer C Rules Doc Reason) × (message_at c j ≡ Some message) × IsAnswer m rules a message answer
      × (short ≡ told answer) × (d ≡ kept c answer)
  TellsKept a j o c d = ⊥

  -- what this answer is taken as: it has its cause, and so far went the editor
  abbrev pub TakenAs : Answer C Rules Doc Reason → Taken → Client C Rules Doc Reason → Client C Rules Doc Reason → Type 0
  TakenAs answer t c d = IsTaken m rules c answer t × GoesBy t c d

  -- the answer of a number was taken
  abbrev pub TellsTook : ℕ → Outcome C Rules Doc Reason → Client C Rules Doc Reason → Client C Rules Doc Reason → Type 0
  TellsTook n (Took t) c d = (answer : Answer C Rules Doc Reason) × (answer_at c n ≡ Some answer) × TakenAs answer t c d
  TellsTook n o c d = ⊥

  -- A lost answer is not taken: nothing changed. One that is not lost is taken, and it is told as what.
  abbrev pub UnlessLost : Bool → Answer C Rules Doc Reason → Option Taken → Client C Rules Doc Reason → Client C Rules Doc Reason → Type 0
  UnlessLost true answer None c d = d ≡ c
  UnlessLost true answer (Some t) c d = ⊥
  UnlessLost false answer None c d = ⊥
  UnlessLost false answer (Some t) c d = TakenAs answer t c d

  -- A message of this kind was composed and presented: what is told is the authority's answer in short. The editor has the message
  -- and the answer more, and then it has taken the answer, unless this is lost.
  abbrev pub TellsExchanged : Authority C Rules Doc Reason → MessageKind → Bool → Outcome C Rules Doc Reason → Client C Rules Doc Reason → Client C Rules Doc Reason → Type 0
  TellsExchanged a kind lost (Exchanged short taken) c d =
      (answer : Answer C Rules Doc Reason) × IsAnswer m rules a (message_of c kind) answer × (short ≡ told answer)
      × UnlessLost lost answer taken (kept (composed c kind) answer) d
  TellsExchanged a kind lost o c d = ⊥

  -- what the outcome of an act by an editor at this authority tells
  abbrev pub ToldBy : {Op : Type 0} → Act Op C → Authority C Rules Doc Reason → Outcome C Rules Doc Reason → Client C Rules Doc Reason → Client C Rules Doc Reason → Type 0
  ToldBy (Edit op event) a o c d = TellsEdit o c d
  ToldBy Undo a o c d = TellsTurn (c.history.undo ≡ []) o c d
  ToldBy Redo a o c d = TellsTurn (c.history.redo ≡ []) o c d
  ToldBy (UndoEvent number) a o c d = TellsTurn (Each (λ e. e.number ≢ Some number) c.history.undo) o c d
  ToldBy (Cursor p side) a o c d = TellsCursor (m.size c.doc) p side o c d
  ToldBy Submit a o c d = TellsComposed Submission o c d
  ToldBy Ask a o c d = TellsComposed Asking o c d
  ToldBy (Present j) a o c d = TellsKept a j o c d
  ToldBy (Take n) a o c d = TellsTook n o c d
  ToldBy (Push lost) a o c d = TellsExchanged a Submission lost o c d
  ToldBy (Pull lost) a o c d = TellsExchanged a Asking lost o c d
  ToldBy (Forge version steps) a o c d = (o ≡ NoStep NotThere) × (d ≡ c)
  ToldBy Enter a o c d = (o ≡ NoStep NotThere) × (d ≡ c)

  -- A raw client draws a serial for each step that it forges, and does nothing else.
  abbrev pub ToldByRaw : {Op : Type 0} → Act Op C → Outcome C Rules Doc Reason → ℕ → ℕ → Member C Rules Doc Reason → Type 0
  ToldByRaw (Forge version steps) o name serial y = y ≡ Raw name (serial + length steps)
  ToldByRaw act o name serial y = (o ≡ NoStep NotThere) × (y ≡ Raw name serial)

  -- what the outcome of an act tells of a member, before and after
  abbrev pub MemberTold : {Op : Type 0} → Act Op C → Authority C Rules Doc Reason → Outcome C Rules Doc Reason → Member C Rules Doc Reason → Member C Rules Doc Reason → Type 0
  MemberTold act a o (Editor c) y = (d : Client C Rules Doc Reason) × (y ≡ Editor d) × ToldBy act a o c d
  MemberTold act a o (Raw name serial) y = ToldByRaw act o name serial y
