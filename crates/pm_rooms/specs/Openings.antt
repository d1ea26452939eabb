-- What is known of rooms that were opened.
use Rattle.std.specs.Prelude.{◌≡◌, List, [], ◌∷◌, ◌++◌, length, map}
use Rattle.pm_change.specs.Changes.{Meaning}
use Rattle.pm_authority.specs.declared.authority.Authority.{Authority}
use Rattle.pm_desk.specs.Desks.{DeskValue}
use Rattle.pm_workers.specs.declared.file.File.{File}
use Rattle.pm_rooms.specs.declared.new_room.NewRoom.{NewRoom}
use Rattle.pm_rooms.specs.declared.opening.Opened.{Opened}
use Rattle.pm_rooms.specs.Handed.{Matched}
use Rattle.pm_rooms.specs.Opened.{new_stands, all_stands, people_in, IsRoomFile, IsDeskOf}

module _ {Rules Doc Reason C Op : Type 0} (m : Meaning Rules Doc Reason C) where
  -- These rooms were opened, each at a desk of its own.
  pub record AreOpened (rooms : List (NewRoom C Op Rules Doc Reason)) (o : Opened C Op Rules Doc Reason) : Type 0 where
    pub desks : Matched (λ room d. IsDeskOf m room d) rooms o.desks.items
    pub filed : Matched (λ room file. IsRoomFile room file) rooms o.files.items
    pub stands : o.stands.items ≡ all_stands 0 rooms o.desks.items
    pub people : map (λ l. l.items) o.people.items ≡ people_in rooms
    pub lines : o.lines.items ≡ map (λ room. room.lines) rooms

  -- One room more was opened, after the others.
  pub record IsOpenedToo (o : Opened C Op Rules Doc Reason) (room : NewRoom C Op Rules Doc Reason) (p : Opened C Op Rules Doc Reason) : Type 0 where
    pub d : DeskValue (Authority C Rules Doc Reason) Rules
    pub file : File
    pub desk_is : IsDeskOf m room d
    pub file_is : IsRoomFile room file
    pub desks : p.desks.items ≡ o.desks.items ++ d ∷ []
    pub files : p.files.items ≡ o.files.items ++ file ∷ []
    pub stands : p.stands.items ≡ o.stands.items ++ new_stands (length o.desks.items) room d
    pub people : p.people.items ≡ o.people.items ++ room.people ∷ []
    pub lines : p.lines.items ≡ o.lines.items ++ room.lines ∷ []
