-- A session that clients may enter late, played.
use Rattle.std.specs.Prelude.{◌≡◌, ℕ, List, MatchBool, nat_lt, length, take, codes, decimal}
use Rattle.pm_tokens.specs.Tokens.{Doc}
use Rattle.pm_schema.specs.declared.schema.Schema.{Schema}
use Rattle.pm_schema.specs.declared.spec.SchemaSpec.{SchemaSpec}
use Rattle.pm_meaning.specs.Steps.{Step}
use Rattle.pm_apply.specs.Changes.{meaning}
use Rattle.pm_authority.specs.declared.named.Named.{Named}
use Rattle.pm_authority.specs.Runs.{AllApply}
use Rattle.pm_session.specs.Sessions.{settled}
use Rattle.pm_versions.specs.LateSessions.{late_session}
use Rattle.pm_script.specs.declared.session.Session.{Session}
use Rattle.pm_report.specs.Outcomes.{with_numbers}
use Rattle.pm_report.specs.Report.{doc_text, report}
use Rattle.pm_report.specs.Words.{◌&◌, line}
use Rattle.pm_making.specs.Making.{makes}
use Rattle.pm_call.specs.Playing.{Room, LineOutcome, room_of}

-- what arises by playing the session's lines in file order, where clients enter late
abbrev pub late_playing : Session → List LineOutcome × Room
late_playing s = late_session meaning s.head.schema (makes s.head.schema) (room_of s) s.lines

-- the room after the first k lines
abbrev pub late_room_after : Session → ℕ → Room
late_room_after s k = (late_session meaning s.head.schema (makes s.head.schema) (room_of s) (take k s.lines)).1

-- the room once the editors have settled
abbrev pub late_room_settled : Session → Room
late_room_settled s = settled meaning s.head.schema (late_playing s).1

-- the report of the session, whose outcomes are told in file order
abbrev pub late_report_of : Session → List ℕ
late_report_of s = report s.head.schema.spec s.head.clients (with_numbers s.lines (late_playing s).0) (late_playing s).1 (late_room_settled s)

-- the line of version n, with its document
abbrev pub version_line : SchemaSpec → ℕ → Doc → List ℕ
version_line spec n doc = line (codes "at" & decimal n & doc_text spec doc)

-- the line that tells how many steps the log has, which are fewer
abbrev pub past_line : ℕ → List ℕ
past_line size = line (codes "past" & decimal size)

-- What is told of version n, where a log begins with this document: the document after the first n steps, which apply one after
-- another. Where the log has fewer steps, how many it has is told.
abbrev pub IsTextAt : Schema → Doc → List (Named Step) → ℕ → List ℕ → Type 0
IsTextAt schema first log n text =
    MatchBool (nat_lt (length log) n) (text ≡ past_line (length log))
    ((doc : Doc) × AllApply meaning schema first (take n log) doc × (text ≡ version_line schema.spec n doc))

-- What is told of version n of a session: its log is that of the room once the editors have settled, and begins with the session's
-- first document.
abbrev pub IsVersionText : Session → ℕ → List ℕ → Type 0
IsVersionText s n text = IsTextAt s.head.schema s.head.doc (late_room_settled s).authority.log n text
