-- Stands and lines that are shared out to people.
use Rattle.std.specs.Prelude.{◌≡◌, ℕ, ◌<◌, List, [], length, map, slice_get, Some, All}
use Rattle.pm_rooms.specs.declared.line.RoomLine.{RoomLine}
use Rattle.pm_rooms.specs.declared.person.Person.{Person}
use Rattle.pm_rooms.specs.declared.sharing.Crowd.{Crowd}
use Rattle.pm_rooms.specs.declared.stand.Stand.{Stand}
use Rattle.pm_rooms.specs.Handed.{handed}
use Rattle.pm_rooms.specs.Opened.{line_person, stand_person}

module _ {Rules Doc Reason C Op : Type 0} (people : List (List ℕ)) (stands : List (Stand C Rules Doc Reason)) (lines : List (RoomLine Op C)) where
  -- Person i with those of the stands and of the lines that are its own. It has played none.
  pub record IsPersonOf (i : ℕ) (p : Person C Op Rules Doc Reason) : Type 0 where
    pub stands_are : p.stands.items ≡ handed i (map (λ x. stand_person people x) stands) stands
    pub lines_are : p.lines.items ≡ handed i (map (λ line. line_person people line) lines) lines
    pub none : p.outcomes.items ≡ []

  -- All people, and the person of each stand.
  pub record AreShared (c : Crowd C Op Rules Doc Reason) : Type 0 where
    pub turns : c.turns.items ≡ map (λ x. stand_person people x) stands
    pub within : All (λ turn. turn < length c.people.items) c.turns.items
    pub each : (i : ℕ) (p : Person C Op Rules Doc Reason) → slice_get c.people.items i ≡ Some p → IsPersonOf i p
