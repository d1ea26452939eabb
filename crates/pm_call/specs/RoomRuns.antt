-- A file of many rooms whose people have threads of their own.
use Rattle.std.specs.Prelude.{◌≡◌, ℕ, List, [], ◌∷◌, ◌++◌}
use Rattle.pm_script.specs.declared.rooms.RoomSession.{RoomSession}
use Rattle.pm_call.specs.RoomReports.{room_line}
use Rattle.pm_call.specs.Running.{IsRun}

-- The text is for each room in order the line with its name, and what is told of its session in an order of its lines. Each room
-- has an order of its own.
abbrev pub AreRun : List RoomSession → List ℕ → Type 0
AreRun [] text = text ≡ []
AreRun (room ∷ rooms) text = (part : List ℕ) × (rest : List ℕ) × IsRun room.session part × AreRun rooms rest × (text ≡ room_line room.name ++ (part ++ rest))
