-- Rooms whose people have played, and what becomes of each room.
use Rattle.std.specs.Prelude.{◌≡◌, ℕ, ◌<◌, List, length, slice_get, slice_index_or, Some, All, Result}
use Rattle.pm_change.specs.Changes.{Meaning}
use Rattle.pm_change.specs.declared.no_step.NoStep.{NoStep}
use Rattle.pm_authority.specs.declared.authority.Authority.{Authority}
use Rattle.pm_desk.specs.Desks.{DeskValue}
use Rattle.pm_workers.specs.declared.file.File.{File}
use Rattle.pm_workers.specs.declared.threaded.Threaded.{Threaded}
use Rattle.pm_workers.specs.declared.worker.Worker.{Worker}
use Rattle.pm_workers.specs.Hired.{PlayedOwn}
use Rattle.pm_workers.specs.Orderly.{IsOrderly}
use Rattle.pm_rooms.specs.declared.new_room.NewRoom.{NewRoom}
use Rattle.pm_rooms.specs.declared.person.Person.{Person}
use Rattle.pm_rooms.specs.declared.stand.Stand.{Stand}
use Rattle.pm_rooms.specs.Handed.{Matched}
use Rattle.pm_rooms.specs.People.{PersonFinished, PersonWorked}
use Rattle.pm_rooms.specs.Opened.{all_stands, IsRoomFile, CanOpen, IsDeskOf}

module _ {Rules Doc Reason C : Type 0} (m : Meaning Rules Doc Reason C) {Op : Type 0} (makes : Rules → Doc → Op → Result (List C) NoStep) where
  -- What became of a room is what its own rules, document, clients and lines make of a session that is played on threads.
  abbrev pub RoomIsOrderly : NewRoom C Op Rules Doc Reason → Threaded C Op Rules Doc Reason → Type 0
  RoomIsOrderly room t = IsOrderly m makes room.rules room.doc room.raw.items room.lines.items t

  -- The stand x of one of these rooms, at that room's desk, played its own lines of the room and is now the worker v.
  abbrev pub StandPlayed : List (NewRoom C Op Rules Doc Reason) → List (DeskValue (Authority C Rules Doc Reason) Rules) → Stand C Rules Doc Reason → Worker C Op Rules Doc Reason → Type 0
  StandPlayed rooms desks x v =
      (room : NewRoom C Op Rules Doc Reason) (d : DeskValue (Authority C Rules Doc Reason) Rules) → slice_get rooms x.room ≡ Some room → slice_get desks x.room ≡ Some d
      → PlayedOwn m makes d room.lines.items x.client x.member x.seat v

-- These people played all their lines at the desks, and became the new ones.
pub record AllPeopleWorked {Rules Doc Reason C Op : Type 0} (m : Meaning Rules Doc Reason C) (desks : List (DeskValue (Authority C Rules Doc Reason) Rules)) (makes : Rules → Doc → Op → Result (List C) NoStep)
    (people new : List (Person C Op Rules Doc Reason)) : Type 0 where
  pub count : length new ≡ length people
  pub finished : (i : ℕ) (d : Person C Op Rules Doc Reason) → i < length people → PersonFinished m desks makes (slice_index_or people i d) (slice_index_or new i d)
  pub worked : (i : ℕ) (d : Person C Op Rules Doc Reason) → i < length people → PersonWorked m desks makes (slice_index_or people i d) (slice_index_or new i d)

-- Some rooms were opened at these desks and their lines filed so, and their clients played all lines and are now these workers,
-- room by room.
pub record HallPlayed {Rules Doc Reason C Op : Type 0} (m : Meaning Rules Doc Reason C) (desks : List (DeskValue (Authority C Rules Doc Reason) Rules)) (files : List File)
    (workers : List (Worker C Op Rules Doc Reason)) : Type 0 where
  pub makes : Rules → Doc → Op → Result (List C) NoStep
  pub rooms : List (NewRoom C Op Rules Doc Reason)
  pub can : All (λ room. CanOpen m room) rooms
  pub desks_are : Matched (λ room d. IsDeskOf m room d) rooms desks
  pub filed : Matched (λ room file. IsRoomFile room file) rooms files
  pub played : Matched (λ x v. StandPlayed m makes rooms desks x v) (all_stands 0 rooms desks) workers
