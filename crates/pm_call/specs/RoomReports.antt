-- A file of many rooms, played.
use Rattle.std.specs.Prelude.{ℕ, List, [], ◌∷◌, ◌++◌, codes}
use Rattle.pm_script.specs.declared.rooms.RoomSession.{RoomSession}
use Rattle.pm_report.specs.Words.{◌&◌, line}
use Rattle.pm_call.specs.Playing.{report_of}

-- the line `room`
abbrev pub room_line : List ℕ → List ℕ
room_line name = line (codes "room" & name)

-- for each room in order the line with its name, and the report of its session
abbrev pub rooms_report : List RoomSession → List ℕ
rooms_report [] = []
rooms_report (room ∷ rooms) = room_line room.name ++ report_of room.session ++ rooms_report rooms
