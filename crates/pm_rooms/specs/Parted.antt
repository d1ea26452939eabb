-- A person's stands, apart: each with its own lines and what became of them.
use Rattle.std.specs.Prelude.{◌≡◌, ◌++◌, ℕ, List, length, slice_get, Some, All}
use Rattle.pm_session.specs.declared.outcome.Outcome.{Outcome}
use Rattle.pm_workers.specs.declared.worker.Worker.{Worker}
use Rattle.pm_rooms.specs.declared.line.RoomLine.{RoomLine}
use Rattle.pm_rooms.specs.declared.person.Person.{Person}
use Rattle.pm_rooms.specs.declared.stand.Stand.{Stand}
use Rattle.pm_rooms.specs.Stands.{IsPlayedBy, HasStand, StandsDiffer, stand_lines, stand_outcomes}

module _ {Rules Doc Reason C Op : Type 0} where
  -- The worker w is the stand x with its own of these lines and outcomes.
  pub record IsPart (lines : List (RoomLine Op C)) (outcomes : List (Outcome C Rules Doc Reason)) (x : Stand C Rules Doc Reason) (w : Worker C Op Rules Doc Reason) : Type 0 where
    pub member : w.member ≡ x.member
    pub seat : w.seat ≡ x.seat
    pub lines_are : w.lines.items ≡ stand_lines x lines
    pub outcomes_are : w.outcomes.items ≡ stand_outcomes x lines outcomes

  -- each of these places is that of the stand that plays the line there
  abbrev pub ArePlaces : List (Stand C Rules Doc Reason) → List (RoomLine Op C) → List ℕ → Type 0
  ArePlaces stands lines places =
      (k : ℕ) (line : RoomLine Op C) (place : ℕ) → slice_get lines k ≡ Some line → slice_get places k ≡ Some place
      → (x : Stand C Rules Doc Reason) × (slice_get stands place ≡ Some x) × IsPlayedBy x line

  -- So far the worker w has those of its lines and outcomes that do not stand among the rest.
  pub record IsPartSoFar (lines rest : List (RoomLine Op C)) (outcomes later : List (Outcome C Rules Doc Reason)) (x : Stand C Rules Doc Reason) (w : Worker C Op Rules Doc Reason) : Type 0 where
    pub member : w.member ≡ x.member
    pub seat : w.seat ≡ x.seat
    pub lines_are : w.lines.items ++ stand_lines x rest ≡ stand_lines x lines
    pub outcomes_are : w.outcomes.items ++ stand_outcomes x rest later ≡ stand_outcomes x lines outcomes

  -- The person has a stand for each line and an outcome for each, and no two of its stands are of one client.
  pub record CanPart (p : Person C Op Rules Doc Reason) : Type 0 where
    pub there : All (λ line. HasStand p.stands.items line) p.lines.items
    pub differ : StandsDiffer p.stands.items
    pub each : length p.outcomes.items ≡ length p.lines.items

  -- These workers are the person's stands, in order.
  pub record IsParted (p : Person C Op Rules Doc Reason) (workers : List (Worker C Op Rules Doc Reason)) : Type 0 where
    pub count : length workers ≡ length p.stands.items
    pub parts : (j : ℕ) (x : Stand C Rules Doc Reason) (w : Worker C Op Rules Doc Reason) → slice_get p.stands.items j ≡ Some x → slice_get workers j ≡ Some w
        → IsPart p.lines.items p.outcomes.items x w
