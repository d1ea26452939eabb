-- Rooms side by side, and what becomes of one of them.
use Rattle.std.specs.Prelude.{◌≡◌, ◌≢◌, ◌⊎◌, ℕ, ◌<◌, List, length, map, take, slice_get, Some, All, Result}
use Rattle.pm_change.specs.Changes.{Meaning}
use Rattle.pm_change.specs.declared.no_step.NoStep.{NoStep}
use Rattle.pm_session.specs.Events.{State, state_of}
use Rattle.pm_session.specs.Left.{LeftByLine, LeftBySettle}
use Rattle.pm_session.specs.Sessions.{session, settled}
use Rattle.pm_session.specs.Sounds.{Sound}
use Rattle.pm_session.specs.Suits.{SuitsRoom, LinesSuit}
use Rattle.pm_rooms.specs.declared.hall.Hall.{Hall}
use Rattle.pm_rooms.specs.declared.line.RoomLine.{RoomLine}
use Rattle.pm_rooms.specs.Lines.{lines_in}

-- A hall, without where its rooms lie in memory: the rules of room r at place r, and the room.
pub record HallState (C Rules Doc Reason : Type 0) : Type 0 where
  pub rules : List Rules
  pub rooms : List (State C Rules Doc Reason)

module _ {Rules Doc Reason C : Type 0} where
  abbrev pub hall_of : Hall C Rules Doc Reason → HallState C Rules Doc Reason
  hall_of hall = record { rules = hall.rules.items; rooms = map state_of hall.rooms.items }

  -- room r of the hall has these rules and is s
  pub record HasRoom (h : HallState C Rules Doc Reason) (r : ℕ) (rules : Rules) (s : State C Rules Doc Reason) : Type 0 where
    pub rules_at : slice_get h.rules r ≡ Some rules
    pub room_at : slice_get h.rooms r ≡ Some s

  -- So it is with room r, where the hall h becomes k: with its rules, what it is before, and what it is after.
  abbrev pub OfRoom : ℕ → HallState C Rules Doc Reason → HallState C Rules Doc Reason → (Rules → State C Rules Doc Reason → State C Rules Doc Reason → Type 0) → Type 0
  OfRoom r h k P = (rules : Rules) (s t : State C Rules Doc Reason) → HasRoom h r rules s → HasRoom k r rules t → P rules s t

  -- so it is with each room
  abbrev pub EachRoom : HallState C Rules Doc Reason → HallState C Rules Doc Reason → (ℕ → Rules → State C Rules Doc Reason → State C Rules Doc Reason → Type 0) → Type 0
  EachRoom h k P = (r : ℕ) → OfRoom r h k (P r)

  -- there are as many rooms as before, with the same rules
  pub record RoomsStay (h k : HallState C Rules Doc Reason) : Type 0 where
    pub rules : k.rules ≡ h.rules
    pub count : length k.rooms ≡ length h.rooms

  -- all rooms but room r are as before
  pub record OthersStay (r : ℕ) (h k : HallState C Rules Doc Reason) : Type 0 where
    pub stay : RoomsStay h k
    pub others : (i : ℕ) → i ≢ r → slice_get k.rooms i ≡ slice_get h.rooms i

  module _ {Op : Type 0} where
    -- a line that suits its room, which is there
    pub record SuitsHall (h : HallState C Rules Doc Reason) (line : RoomLine Op C) : Type 0 where
      pub room : State C Rules Doc Reason
      pub at : slice_get h.rooms line.room ≡ Some room
      pub suits : SuitsRoom room line.line

    -- Lines of which each has a room that is there, and which suit the rooms one after another: each room's own lines suit it.
    pub record LinesSuitHall (h : HallState C Rules Doc Reason) (lines : List (RoomLine Op C)) : Type 0 where
      pub there : All (λ line. line.room < length h.rooms) lines
      pub suit : (r : ℕ) (s : State C Rules Doc Reason) → slice_get h.rooms r ≡ Some s → LinesSuit s (lines_in r lines)

module _ {Rules Doc Reason C : Type 0} (m : Meaning Rules Doc Reason C) where
  -- each room has rules, and is sound under them
  pub record HallIsSound (h : HallState C Rules Doc Reason) : Type 0 where
    pub each : length h.rules ≡ length h.rooms
    pub sound : (r : ℕ) (rules : Rules) (s : State C Rules Doc Reason) → HasRoom h r rules s → Sound m rules s

  -- A hall h that lines left so, where memory ran out: each room is as its own of the first lines leave it, and the next line may
  -- have left parts of it done in its room.
  pub record LeftInHall {Op : Type 0} (makes : Rules → Doc → Op → Result (List C) NoStep) (h : HallState C Rules Doc Reason) (lines : List (RoomLine Op C))
      (k : HallState C Rules Doc Reason) : Type 0 where
    pub played : ℕ
    pub left : EachRoom h k (λ r rules s t. let before = (session m rules (makes rules) s (lines_in r (take played lines))).1 in
        (t ≡ before) ⊎ ((line : RoomLine Op C) × (slice_get lines played ≡ Some line) × (line.room ≡ r) × LeftByLine m rules before line.line t))

  -- A hall h that was to settle, where memory ran out in a room: those before it are settled, and those after it as before.
  pub record LeftSettling (h k : HallState C Rules Doc Reason) : Type 0 where
    pub reached : ℕ
    pub within : reached < length h.rooms
    pub before : EachRoom h k (λ r rules s t. r < reached → t ≡ settled m rules s)
    pub there : OfRoom reached h k (λ rules s t. LeftBySettle m rules s t)
    pub later : EachRoom h k (λ r rules s t. reached < r → t ≡ s)
