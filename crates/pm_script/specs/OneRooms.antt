-- What follows for two meanings of an input as a file of many rooms.
use Rattle.std.specs.Prelude.{◌≡◌, ℕ, List, [], ◌∷◌, Ok, Err}
use Rattle.pm_head.specs.declared.fault.Refusal.{Refusal}
use Rattle.pm_script.specs.declared.rooms.RoomSession.{RoomSession}
use Rattle.pm_script.specs.OneMeaning.{SameSession}
use Rattle.pm_script.specs.Rooms.{RoomsAre}

-- The names are equal, and the sessions the same.
pub record SameRoom (r q : RoomSession) : Type 0 where
  pub name : r.name ≡ q.name
  pub session : SameSession r.session q.session

-- as many rooms, the same one by one
abbrev pub SameRooms : List RoomSession → List RoomSession → Type 0
SameRooms [] [] = Unit {0}
SameRooms [] (q ∷ qs) = ⊥
SameRooms (r ∷ rs) [] = ⊥
SameRooms (r ∷ rs) (q ∷ qs) = SameRoom r q × SameRooms rs qs

-- an input that is rooms is not refused
abbrev pub RoomsExcludeRefusal : List ℕ → Type 0
RoomsExcludeRefusal input = (rooms : List RoomSession) (refusal : Refusal) → RoomsAre input (Ok rooms) → RoomsAre input (Err refusal) → ⊥

-- its refusal, a line and a code, is one
abbrev pub HasOneRoomsRefusal : List ℕ → Type 0
HasOneRoomsRefusal input = (refusal other : Refusal) → RoomsAre input (Err refusal) → RoomsAre input (Err other) → refusal ≡ other

-- the rooms of the input are the same, one by one
abbrev pub HasOneRooms : List ℕ → Type 0
HasOneRooms input = (rooms others : List RoomSession) → RoomsAre input (Ok rooms) → RoomsAre input (Ok others) → SameRooms rooms others
