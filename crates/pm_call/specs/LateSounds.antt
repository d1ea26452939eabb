-- What holds of the rooms of a session that clients may enter late, of its lines, and once its editors have settled.
use Rattle.std.specs.Prelude.{ℕ, List, Ok}
use Rattle.pm_apply.specs.Changes.{meaning}
use Rattle.pm_head.specs.declared.form.Form.TheVariants as form
use Rattle.pm_session.specs.Answers.{SettlingHolds}
use Rattle.pm_session.specs.Holding.{RoomHolds}
use Rattle.pm_session.specs.Sounds.{AllCaughtUp}
use Rattle.pm_versions.specs.LateSessions.{AllHold, AllAsPulled}
use Rattle.pm_script.specs.declared.session.Session.{Session}
use Rattle.pm_script.specs.Sessions.{SessionIs}
use Rattle.pm_making.specs.Making.{makes}
use Rattle.pm_call.specs.Playing.{room_of}
use Rattle.pm_call.specs.LatePlaying.{late_playing, late_room_after, late_room_settled}

-- The rooms of a session that clients may enter late, where a good document is a valid one:
-- `played`, `settling`, `settled`, `caught_up`: as in a session that nobody enters late.
-- `lines`: so it is on every line. A line that doesn't enter has the outcome that the report tells, and holds what it holds in
-- such a session. By a line that enters a client that has done nothing gets the whole log and the document after it; the report
-- tells the log's length, and nothing else changes.
-- `pulled`: a late client is as one that pulled all. After every number of lines its version, base, pending steps, document,
-- cursors and dropped serials are those that it has in the session in which no client is late and it pulls in place of entering,
-- and the numbers of its messages and answers are one higher.
pub record LateRoomsSound (s : Session) : Type 0 where
  pub played : (k : ℕ) → RoomHolds meaning s.head.schema (late_room_after s k)
  pub lines : AllHold meaning s.head.schema (makes s.head.schema) (room_of s) s.lines
  pub pulled : AllAsPulled meaning s.head.schema (makes s.head.schema) (room_of s) s.lines
  pub settling : SettlingHolds meaning s.head.schema (late_playing s).1
  pub settled : RoomHolds meaning s.head.schema (late_room_settled s)
  pub caught_up : AllCaughtUp (late_room_settled s)

-- each session that the input is, in which clients may come late, has such rooms alone
abbrev pub AllLateSound : List ℕ → Type 0
AllLateSound input = (s : Session) → SessionIs form.Late input (Ok s) → LateRoomsSound s
