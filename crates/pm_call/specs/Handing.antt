-- For private clauses: rooms that are handed over to be played, and what is told of them.
use Rattle.std.specs.Prelude.{◌≡◌, ℕ, Bool, List, [], ◌∷◌, ◌++◌, map}
use Rattle.pm_tokens.specs.Tokens.{Doc}
use Rattle.pm_schema.specs.declared.schema.Schema.{Schema}
use Rattle.pm_meaning.specs.Steps.{Step}
use Rattle.pm_meaning.specs.declared.reason.Reason.{Reason}
use Rattle.pm_head.specs.Clients.{raw_flags}
use Rattle.pm_ops.specs.declared.op.Op.{Op}
use Rattle.pm_session.specs.declared.line.Line.{Line}
use Rattle.pm_session.specs.Events.{state_of}
use Rattle.pm_script.specs.declared.rooms.RoomSession.{RoomSession}
use Rattle.pm_workers.specs.declared.threaded.Threaded.{Threaded}
use Rattle.pm_rooms.specs.declared.new_room.NewRoom.{NewRoom}
use Rattle.pm_call.specs.declared.running_rooms.Entry.{Entry}
use Rattle.pm_call.specs.RoomReports.{room_line}
use Rattle.pm_call.specs.Running.{IsTold}

abbrev pub PlayedRoom : Type 0
PlayedRoom = Threaded Step Op Schema Doc Reason

-- the room's name and its clients
abbrev pub entry_of : RoomSession → Entry
entry_of room = record { name = room.name; clients = room.session.head.clients }

-- what a room is played with, apart from who plays in it
pub record Opening : Type 0 where
  pub schema : Schema
  pub doc : Doc
  pub raw : List Bool
  pub lines : List (Line Op Step)

abbrev pub opening_in : RoomSession → Opening
opening_in room = record { schema = room.session.head.schema; doc = room.session.head.doc; raw = raw_flags room.session.head.clients; lines = room.session.lines }

abbrev pub opening_of : NewRoom Step Op Schema Doc Reason → Opening
opening_of room = record { schema = room.rules; doc = room.doc; raw = room.raw.items; lines = room.lines.items }

-- for each room in order the line with its name, and what is told of it; as many were played as there are entries
abbrev pub EntriesTold : List Entry → List PlayedRoom → List ℕ → Type 0
EntriesTold [] [] text = text ≡ []
EntriesTold [] (t ∷ ts) text = ⊥
EntriesTold (entry ∷ entries) [] text = ⊥
EntriesTold (entry ∷ entries) (t ∷ ts) text =
    (part : List ℕ) × (rest : List ℕ) × IsTold entry.clients t.rules t.lines.items t.outcomes.items (state_of t.room) part
    × EntriesTold entries ts rest × (text ≡ room_line entry.name ++ (part ++ rest))
