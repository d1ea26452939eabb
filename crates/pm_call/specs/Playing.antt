-- A session, played.
use Rattle.std.specs.Prelude.{ℕ, List, take}
use Rattle.pm_tokens.specs.Tokens.{Doc}
use Rattle.pm_schema.specs.declared.schema.Schema.{Schema}
use Rattle.pm_meaning.specs.Steps.{Step}
use Rattle.pm_meaning.specs.declared.reason.Reason.{Reason}
use Rattle.pm_apply.specs.Changes.{meaning}
use Rattle.pm_head.specs.Clients.{raw_flags}
use Rattle.pm_session.specs.declared.outcome.Outcome.{Outcome}
use Rattle.pm_session.specs.Events.{State}
use Rattle.pm_session.specs.Sessions.{opened, session, settled}
use Rattle.pm_script.specs.declared.session.Session.{Session}
use Rattle.pm_report.specs.Outcomes.{with_numbers}
use Rattle.pm_report.specs.Report.{report}
use Rattle.pm_making.specs.Making.{makes}

-- a room, and what became of a line
abbrev pub Room : Type 0
Room = State Step Schema Doc Reason

abbrev pub LineOutcome : Type 0
LineOutcome = Outcome Step Schema Doc Reason

-- the room at the session's first document, with its editors and raw clients
abbrev pub room_of : Session → Room
room_of s = opened s.head.doc (raw_flags s.head.clients)

-- what arises by playing the session's lines in file order
abbrev pub playing : Session → List LineOutcome × Room
playing s = session meaning s.head.schema (makes s.head.schema) (room_of s) s.lines

-- the room after the first k lines
abbrev pub room_after : Session → ℕ → Room
room_after s k = (session meaning s.head.schema (makes s.head.schema) (room_of s) (take k s.lines)).1

-- the room once the editors have settled
abbrev pub room_settled : Session → Room
room_settled s = settled meaning s.head.schema (playing s).1

-- the report of the session, whose outcomes are told in file order
abbrev pub report_of : Session → List ℕ
report_of s = report s.head.schema.spec s.head.clients (with_numbers s.lines (playing s).0) (playing s).1 (room_settled s)
