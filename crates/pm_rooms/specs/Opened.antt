-- Rooms that are opened, each at a desk of its own, and the stands of their clients.
use Rattle.std.specs.Prelude.{◌≡◌, ℕ, ◌+◌, ◌<◌, ◌≤◌, List, [], ◌∷◌, ◌++◌, length, map, get_or}
use Rattle.pm_change.specs.Changes.{Meaning}
use Rattle.pm_authority.specs.declared.authority.Authority.{Authority}
use Rattle.pm_authority.specs.declared.machine.Request.{Request}
use Rattle.pm_desk.specs.Desks.{DeskValue, SeatValue}
use Rattle.pm_session.specs.declared.member.Member.{Member}
use Rattle.pm_session.specs.Sessions.{new_members, opened}
use Rattle.pm_session.specs.Suits.{LinesSuit}
use Rattle.pm_workers.specs.declared.file.File.{File}
use Rattle.pm_workers.specs.Filed.{IsFileOf}
use Rattle.pm_workers.specs.Hired.{IsOpen}
use Rattle.pm_workers.specs.Seatings.{seats_for}
use Rattle.pm_rooms.specs.declared.line.RoomLine.{RoomLine}
use Rattle.pm_rooms.specs.declared.new_room.NewRoom.{NewRoom}
use Rattle.pm_rooms.specs.declared.stand.Stand.{Stand}

-- the person who plays this client of this room, where `people` has for each room the person of each client
abbrev pub person_of : List (List ℕ) → ℕ → ℕ → ℕ
person_of people room client = get_or (get_or people room []) client 0

abbrev pub line_person : {Op C : Type 0} → List (List ℕ) → RoomLine Op C → ℕ
line_person people line = person_of people line.room line.line.client

module _ {Rules Doc Reason C : Type 0} where
  abbrev pub stand_person : List (List ℕ) → Stand C Rules Doc Reason → ℕ
  stand_person people stand = person_of people stand.room stand.client

  -- the stands of clients k, k + 1 and so on of room r
  abbrev pub stands_of : ℕ → ℕ → List (Member C Rules Doc Reason) → List (SeatValue (Authority C Rules Doc Reason) Rules (Request C)) → List (Stand C Rules Doc Reason)
  stands_of r k [] seats = []
  stands_of r k (x ∷ members) [] = []
  stands_of r k (x ∷ members) (s ∷ seats) = record { room = r; client = k; member = x; seat = s } ∷ stands_of r (k + 1) members seats

  -- the stands of room r as it is just opened at the desk d
  abbrev pub new_stands : {Op : Type 0} → ℕ → NewRoom C Op Rules Doc Reason → DeskValue (Authority C Rules Doc Reason) Rules → List (Stand C Rules Doc Reason)
  new_stands r room d = stands_of r 0 (new_members room.doc 0 room.raw.items) (seats_for d (length room.raw.items))

  -- the stands of all these rooms as they are just opened at these desks, where the first is room r
  abbrev pub all_stands : {Op : Type 0} → ℕ → List (NewRoom C Op Rules Doc Reason) → List (DeskValue (Authority C Rules Doc Reason) Rules) → List (Stand C Rules Doc Reason)
  all_stands r [] desks = []
  all_stands r (room ∷ rooms) [] = []
  all_stands r (room ∷ rooms) (d ∷ desks) = new_stands r room d ++ all_stands (r + 1) rooms desks

  -- the persons of the clients of each room
  abbrev pub people_in : {Op : Type 0} → List (NewRoom C Op Rules Doc Reason) → List (List ℕ)
  people_in rooms = map (λ room. room.people.items) rooms

  -- the lines of a room were filed so
  abbrev pub IsRoomFile : {Op : Type 0} → NewRoom C Op Rules Doc Reason → File → Type 0
  IsRoomFile room file = IsFileOf (length room.raw.items) room.lines.items file

module _ {Rules Doc Reason C : Type 0} (m : Meaning Rules Doc Reason C) {Op : Type 0} where
  -- A room that can be opened: its document is good by its rules, it has 1 to 32 clients, and its lines suit it.
  pub record CanOpen (room : NewRoom C Op Rules Doc Reason) : Type 0 where
    pub good : m.is_good room.rules room.doc
    pub some : 0 < length room.raw.items
    pub few : length room.raw.items ≤ 32
    pub suit : LinesSuit (opened {Rules = Rules} {Reason = Reason} {C = C} room.doc room.raw.items) room.lines.items

  -- the desk has the room's rules, and was opened at the room's document
  pub record IsDeskOf (room : NewRoom C Op Rules Doc Reason) (d : DeskValue (Authority C Rules Doc Reason) Rules) : Type 0 where
    pub rules : d.opening.rules ≡ room.rules
    pub opening : IsOpen m d room.doc
