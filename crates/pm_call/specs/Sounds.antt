-- What holds of the rooms of a session, of its lines, and once its editors have settled.
use Rattle.std.specs.Prelude.{◌≡◌, ℕ, ◌+◌, List, slice_get, Some, Ok}
use Rattle.pm_apply.specs.Changes.{meaning}
use Rattle.pm_meaning.specs.Steps.{Step}
use Rattle.pm_ops.specs.declared.op.Op.{Op}
use Rattle.pm_session.specs.declared.line.Line.{Line}
use Rattle.pm_head.specs.declared.form.Form.TheVariants as form
use Rattle.pm_session.specs.Answers.{LineHolds, SettlingHolds}
use Rattle.pm_session.specs.Holding.{RoomHolds}
use Rattle.pm_session.specs.Sounds.{AllCaughtUp}
use Rattle.pm_script.specs.declared.session.Session.{Session}
use Rattle.pm_script.specs.Sessions.{SessionIs}
use Rattle.pm_call.specs.Playing.{LineOutcome, playing, room_after, room_settled}

-- Line k of a session: its outcome, which the report tells, and what holds from the room before it to the one after it.
pub record PlaysLine (s : Session) (k : ℕ) (line : Line Op Step) : Type 0 where
  pub outcome : LineOutcome
  pub told : slice_get (playing s).0 k ≡ Some outcome
  pub holds : LineHolds meaning s.head.schema (room_after s k) line outcome (room_after s (k + 1))

-- The rooms of a session, where a good document is a valid one:
-- `played`: so it is after every number of lines. Every document is valid; the authority's is the first one after the log; an
-- editor at version n with nothing pending has the first document after the log's first n steps; each entry of the log and
-- each token of an editor's document has a name of its own; and no message that an editor composed would be refused for a
-- step, whatever the raw clients forge.
-- `lines`: so it is on every line. A submission, forged or not, is accepted exactly where its version is the log's length and
-- its steps apply, and then exactly its steps are appended; cursors stay before their tokens; an undo or a redo with nothing
-- changed since its event gives the document before the event back.
-- `settling`: so it is in every exchange by which the editors settle, of rooms, submissions and cursors.
-- `settled` and `caught_up`: at the end each editor has the whole log, nothing pending and the authority's document.
pub record RoomsSound (s : Session) : Type 0 where
  pub played : (k : ℕ) → RoomHolds meaning s.head.schema (room_after s k)
  pub lines : (k : ℕ) (line : Line Op Step) → slice_get s.lines k ≡ Some line → PlaysLine s k line
  pub settling : SettlingHolds meaning s.head.schema (playing s).1
  pub settled : RoomHolds meaning s.head.schema (room_settled s)
  pub caught_up : AllCaughtUp (room_settled s)

-- each session that the input is has sound rooms alone, where every client is there from the first line on
abbrev pub AllSound : List ℕ → Type 0
AllSound input = (s : Session) → SessionIs form.Plain input (Ok s) → RoomsSound s
