-- For private clauses: a room whose op lines are being read, as the session that it is so far.
use Rattle.std.specs.Prelude.{ℕ, ◌≤◌, List, map, vec_len, All}
use Rattle.pm_script.specs.declared.rooms.RoomSession.{RoomSession}
use Rattle.pm_script.specs.declared.open_room.OpenRoom.{OpenRoom}

abbrev pub room_of : OpenRoom → RoomSession
room_of o = record { name = o.name; session = record { head = o.head; lines = o.earlier.lines.items } }

abbrev pub rooms_of : List OpenRoom → List RoomSession
rooms_of rooms = map room_of rooms

-- each has at most so many op lines
abbrev pub HaveAtMost : ℕ → List OpenRoom → Type 0
HaveAtMost n rooms = All (λ o. vec_len o.earlier.lines ≤ n) rooms
