-- The report that was put together is the session's, and its rooms are sound.
use Rattle.std.proofs.Common.{◌≡◌, ℕ, List, ◌++◌, length, take, codes, decimal, string_bytes}
use Rattle.std.specs.Prelude.{String, Result, IfOk}
use Rattle.std.specs.declared.alloc.AllocError.{AllocError}
use Rattle.std.specs.declared.alloc.Global.{Global}
use Rattle.pm_tokens.specs.Tokens.{Doc}
use Rattle.pm_tokens.specs.Faults.{Valid}
use Rattle.pm_schema.specs.Documents.{documents_of}
use Rattle.pm_schema.specs.declared.schema.Schema.{Schema}
use Rattle.pm_meaning.specs.Steps.{Step}
use Rattle.pm_meaning.specs.declared.reason.Reason.{Reason}
use Rattle.pm_apply.specs.Changes.{meaning}
use Rattle.pm_apply.specs.Laws.{laws}
use Rattle.pm_head.specs.declared.form.Form.TheVariants as form
use Rattle.pm_head.specs.Clients.{raw_flags}
use Rattle.pm_session.specs.Sessions.{settled}
use Rattle.pm_session.specs.Sounds.{Sound}
use Rattle.pm_session.specs.Suits.{LinesSuit}
use Rattle.pm_session.specs.Members.{kinds_of}
use Rattle.pm_session.specs.declared.line.Line.{Line}
use Rattle.pm_ops.specs.declared.op.Op.{Op}
use Rattle.pm_session.proofs.Openings.{opened-suits}
use Rattle.pm_session.proofs.Opening.{opened-sound}
use Rattle.pm_session.proofs.Playing.{session-sound, suit-front}
use Rattle.pm_session.proofs.Turns.{settled-sound}
use Rattle.pm_session.proofs.Settling.{settled-caught}
use Rattle.pm_session.proofs.Holdings.{room-holds, session-lines, settling-holds}
use Rattle.pm_script.specs.declared.session.Session.{Session}
use Rattle.pm_script.specs.Held.{Holds}
use Rattle.pm_script.proofs.SessionLaws.{session-holds}
use Rattle.pm_report.specs.Words.{◌&◌, line}
use Rattle.pm_making.specs.Making.{makes}
use Rattle.pm_call.specs.Playing.{Room, room_of, playing, room_after, room_settled}
use Rattle.pm_call.specs.Sounds.{RoomsSound, AllSound}

-- lines that suit a room suit it up to each of them
suits-front : (room : Room) (lines : List (Line Op Step)) (k : ℕ) → LinesSuit room lines → LinesSuit room (take k lines)
suits-front room lines k h = record { earlier = h.earlier; counted = h.counted; suit = suit-front (kinds_of room.members) h.earlier lines k h.suit }

-- the rooms of a session whose lines suit it
pub rooms-sound : (s : Session) → Valid (documents_of s.head.schema.spec) s.head.doc → LinesSuit (room_of s) s.lines → RoomsSound s
rooms-sound s valid all =
    let rules = s.head.schema in
    let raw = raw_flags s.head.clients in
    let room = room_of s in
    let sound : Sound meaning rules room = opened-sound s.head.doc meaning rules raw valid in
    let suits = λ (k : ℕ). suits-front room s.lines k all in
    let last : Sound meaning rules (playing s).1 = session-sound meaning rules laws (makes rules) room s.lines sound all in
    let end : Sound meaning rules (room_settled s) = settled-sound meaning rules laws (playing s).1 last in
    let played : (k : ℕ) → Sound meaning rules (room_after s k) = λ k. session-sound meaning rules laws (makes rules) room (take k s.lines) sound (suits k) in
    record {
      played = λ k. room-holds meaning rules laws (room_after s k) (played k);
      lines = λ k line at.
          let p = session-lines meaning rules laws (makes rules) room s.lines sound all k line at in
          record { outcome = p.0; told = p.1; holds = p.2 };
      settling = settling-holds meaning rules laws (makes rules) (playing s).1 last;
      settled = room-holds meaning rules laws (room_settled s) end;
      caught_up = settled-caught meaning rules laws (playing s).1 last;
    }

-- the lines of a session that is read suit its room
pub lines-suit : (s : Session) → Holds s → LinesSuit (room_of s) s.lines
lines-suit s held = opened-suits Schema Doc Reason Step s.head.doc (raw_flags s.head.clients) s.lines held.suit

-- the rooms of every session
pub all_sound : (input : List ℕ) → AllSound input
all_sound input s is =
    let held = session-holds form.Plain input s is in
    rooms-sound s held.valid (lines-suit s held)
