-- The rooms that an input is, as its line 1 lists them.
use Rattle.std.specs.Prelude.{◌≡◌, ℕ, List, ◌∷◌, map, Ok}
use Rattle.pm_head.specs.Lines.{lines_of}
use Rattle.pm_head.specs.Rooms.{rooms_line}
use Rattle.pm_script.specs.declared.rooms.RoomSession.{RoomSession}
use Rattle.pm_script.specs.Rooms.{RoomsAre}

-- Line 1 lists the names of these rooms, in their order. So there is a room for each name, and room r has the r-th one.
pub record AreListed (input : List ℕ) (rooms : List RoomSession) : Type 0 where
  pub line : List ℕ
  pub rest : List (List ℕ)
  pub lines_are : lines_of input ≡ line ∷ rest
  pub listed : rooms_line line ≡ Ok (map (λ room. room.name) rooms)

abbrev pub AllRoomsListed : List ℕ → Type 0
AllRoomsListed input = (rooms : List RoomSession) → RoomsAre input (Ok rooms) → AreListed input rooms
