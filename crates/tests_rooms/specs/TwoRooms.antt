-- Two rooms with an empty paragraph, and lines of theirs.
use Rattle.std.specs.Prelude.{◌≡◌, ℕ, false, List, [], ◌∷◌, None}
use Rattle.pm_flat.specs.declared.flat.Replace.{Replace}
use Rattle.pm_flat.specs.declared.flat.Reason.{Reason}
use Rattle.pm_flat.specs.Flat.{meaning}
use Rattle.pm_session.specs.declared.line.Act.TheVariants.{Edit, Push}
use Rattle.pm_session.specs.Events.{State}
use Rattle.pm_session.specs.Sessions.{opened}
use Rattle.pm_rooms.specs.declared.hall.Hall.{Hall}
use Rattle.pm_rooms.specs.declared.line.RoomLine.{RoomLine}
use Rattle.pm_rooms.specs.Halls.{hall_of, HallIsSound}

-- a room with an empty paragraph and one editor
abbrev pub empty_room : State Replace (Unit {0}) (List ℕ) Reason
empty_room = opened [] (false ∷ [])

-- a sound hall of two such rooms
pub record AreTwoRooms (hall : Hall Replace (Unit {0}) (List ℕ) Reason) : Type 0 where
  pub sound : HallIsSound meaning (hall_of hall)
  pub rooms : (hall_of hall).rooms ≡ empty_room ∷ empty_room ∷ []

-- the editor of each room types a letter, and the one of room 1 pushes it
abbrev pub the_lines : List (RoomLine (List ℕ) Replace)
the_lines =
    record { room = 0; line = record { number = 8; client = 0; act = Edit (65 ∷ []) None } }
    ∷ (record { room = 1; line = record { number = 9; client = 0; act = Edit (66 ∷ []) None } }
    ∷ (record { room = 1; line = record { number = 10; client = 0; act = Push false } } ∷ []))
