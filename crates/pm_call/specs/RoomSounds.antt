-- What holds of the rooms of a file of many.
use Rattle.std.specs.Prelude.{ℕ, List, Ok, All}
use Rattle.pm_script.specs.declared.rooms.RoomSession.{RoomSession}
use Rattle.pm_script.specs.OwnLines.{AreOfOwnLines}
use Rattle.pm_script.specs.Rooms.{RoomsAre}
use Rattle.pm_call.specs.Sounds.{RoomsSound}

-- each room of each file of many rooms that the input is has a session whose rooms are sound
abbrev pub AllRoomsSound : List ℕ → Type 0
AllRoomsSound input = (rooms : List RoomSession) → RoomsAre input (Ok rooms) → All (λ room. RoomsSound room.session) rooms

-- and that session is the one of the room's own lines
abbrev pub AllRoomsApart : List ℕ → Type 0
AllRoomsApart input = (rooms : List RoomSession) → RoomsAre input (Ok rooms) → AreOfOwnLines input rooms
