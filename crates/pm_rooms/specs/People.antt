-- People that play as clients of several rooms, each room at a desk of its own, and what they did by their lines.
use Rattle.std.specs.Prelude.{◌≡◌, ℕ, ◌≤◌, ◌<◌, List, [], length, slice_get, slice_set, Some, All, Result, IfOk}
use Rattle.std.specs.declared.alloc.AllocError.{AllocError}
use Rattle.pm_change.specs.Changes.{Meaning}
use Rattle.pm_change.specs.declared.no_step.NoStep.{NoStep}
use Rattle.pm_authority.specs.declared.authority.Authority.{Authority}
use Rattle.pm_desk.specs.Desks.{DeskValue}
use Rattle.pm_session.specs.declared.outcome.Outcome.{Outcome}
use Rattle.pm_session.specs.Sounds.{MemberStands}
use Rattle.pm_session.specs.Suits.{SuitsMember}
use Rattle.pm_workers.specs.Seats.{SeesMore, authority_after, Serves}
use Rattle.pm_workers.specs.Worked.{ActedAt, Worked, Finished, IsReady}
use Rattle.pm_rooms.specs.declared.line.RoomLine.{RoomLine}
use Rattle.pm_rooms.specs.declared.person.Person.{Person}
use Rattle.pm_rooms.specs.declared.stand.Stand.{Stand}
use Rattle.pm_rooms.specs.Stands.{IsPlayedBy, HasStand, StandsDiffer, stand_lines, stand_outcomes}

module _ {Rules Doc Reason C : Type 0} (m : Meaning Rules Doc Reason C) (desks : List (DeskValue (Authority C Rules Doc Reason) Rules)) where
  module _ {Op : Type 0} where
    -- These stands are to play these lines: each line has a stand, no two stands are of one client, and each stand is ready for
    -- its own lines at the desk of its room.
    pub record StandsReady (stands : List (Stand C Rules Doc Reason)) (lines : List (RoomLine Op C)) : Type 0 where
      pub there : All (λ line. HasStand stands line) lines
      pub differ : StandsDiffer stands
      pub desks_there : All (λ x. x.room < length desks) stands
      pub ready : (j : ℕ) (x : Stand C Rules Doc Reason) (d : DeskValue (Authority C Rules Doc Reason) Rules) → slice_get stands j ≡ Some x → slice_get desks x.room ≡ Some d
          → IsReady m d (stand_lines x lines) x.member x.seat []

    -- A person is to play its lines, and there is no outcome yet.
    pub record IsPersonReady (p : Person C Op Rules Doc Reason) : Type 0 where
      pub stands : StandsReady p.stands.items p.lines.items
      pub none : p.outcomes.items ≡ []

    -- whichever of these stands plays the line, its seat serves it, the line suits it, and it stands to the log that the seat has seen
    abbrev pub LineReady : List (Stand C Rules Doc Reason) → RoomLine Op C → Type 0
    LineReady stands line =
        (j : ℕ) (x : Stand C Rules Doc Reason) (d : DeskValue (Authority C Rules Doc Reason) Rules) → slice_get stands j ≡ Some x → slice_get desks line.room ≡ Some d → IsPlayedBy x line
        → Serves m d x.seat d.opening.rules line.line.client × SuitsMember x.member line.line
        × MemberStands m d.opening.rules d.opening.machine.first (authority_after m d x.seat.seen).log x.member

    module _ (makes : Rules → Doc → Op → Result (List C) NoStep) where
      -- One of these stands, x, did what the line says at the desk of its room, and became y. The others are as before.
      pub record LinePlayed (stands : List (Stand C Rules Doc Reason)) (line : RoomLine Op C) (r : Result (Outcome C Rules Doc Reason) AllocError)
          (new : List (Stand C Rules Doc Reason)) : Type 0 where
        pub place : ℕ
        pub x : Stand C Rules Doc Reason
        pub y : Stand C Rules Doc Reason
        pub d : DeskValue (Authority C Rules Doc Reason) Rules
        pub at : slice_get stands place ≡ Some x
        pub by : IsPlayedBy x line
        pub desk : slice_get desks line.room ≡ Some d
        pub new_is : new ≡ slice_set stands place y
        pub room : y.room ≡ x.room
        pub client : y.client ≡ x.client
        pub seat : SeesMore x.seat y.seat
        pub serves : Serves m d y.seat d.opening.rules line.line.client
        pub stands_on : MemberStands m d.opening.rules d.opening.machine.first (authority_after m d y.seat.seen).log y.member
        pub acts : IfOk r (λ o. ActedAt m (makes d.opening.rules) d line.line.act x.member x.seat o y.member y.seat)

      -- The stand x became y. It is what a worker at the desk of its room is that had the stand's own lines alone: it played the
      -- first of them, as many as they have outcomes, or all and nothing else.
      pub record StandFinished (lines : List (RoomLine Op C)) (outcomes : List (Outcome C Rules Doc Reason)) (d : DeskValue (Authority C Rules Doc Reason) Rules)
          (x y : Stand C Rules Doc Reason) : Type 0 where
        pub room : y.room ≡ x.room
        pub client : y.client ≡ x.client
        pub finished : Finished m (makes d.opening.rules) d (stand_lines x lines) x.member x.seat (stand_outcomes x lines outcomes) y.member y.seat

      -- These stands played the first of these lines, as many as there are outcomes, and became the new ones.
      pub record StandsFinished (lines : List (RoomLine Op C)) (stands : List (Stand C Rules Doc Reason)) (outcomes : List (Outcome C Rules Doc Reason))
          (new : List (Stand C Rules Doc Reason)) : Type 0 where
        pub within : length outcomes ≤ length lines
        pub count : length new ≡ length stands
        pub each : (j : ℕ) (x y : Stand C Rules Doc Reason) (d : DeskValue (Authority C Rules Doc Reason) Rules) → slice_get stands j ≡ Some x → slice_get new j ≡ Some y
            → slice_get desks x.room ≡ Some d → StandFinished lines outcomes d x y

      -- The person p, which was to play its lines, became q.
      pub record PersonFinished (p q : Person C Op Rules Doc Reason) : Type 0 where
        pub lines : q.lines ≡ p.lines
        pub stands : StandsFinished p.lines.items p.stands.items q.outcomes.items q.stands.items

      -- The person p played all its lines and became q. Each stand played all its own lines, as a worker at its room's desk.
      pub record PersonWorked (p q : Person C Op Rules Doc Reason) : Type 0 where
        pub lines : q.lines ≡ p.lines
        pub each_line : length q.outcomes.items ≡ length p.lines.items
        pub count : length q.stands.items ≡ length p.stands.items
        pub each : (j : ℕ) (x y : Stand C Rules Doc Reason) (d : DeskValue (Authority C Rules Doc Reason) Rules) → slice_get p.stands.items j ≡ Some x → slice_get q.stands.items j ≡ Some y
            → slice_get desks x.room ≡ Some d
            → Worked m (makes d.opening.rules) d (stand_lines x p.lines.items) x.member x.seat (stand_outcomes x p.lines.items q.outcomes.items) y.member y.seat
