-- The lines that one stand of a person plays.
use Rattle.std.specs.Prelude.{◌≡◌, ℕ, List, slice_get, Some}
use Rattle.pm_session.specs.declared.line.Line.{Line}
use Rattle.pm_workers.specs.Threads.{own_lines, own_outcomes}
use Rattle.pm_rooms.specs.declared.line.RoomLine.{RoomLine}
use Rattle.pm_rooms.specs.declared.stand.Stand.{Stand}
use Rattle.pm_rooms.specs.Lines.{lines_in, outcomes_in}

module _ {Rules Doc Reason C : Type 0} where
  -- the line is of the stand's room and client
  pub record IsPlayedBy {Op : Type 0} (x : Stand C Rules Doc Reason) (line : RoomLine Op C) : Type 0 where
    pub room : x.room ≡ line.room
    pub client : x.client ≡ line.line.client

  -- one of these stands plays the line
  pub record HasStand {Op : Type 0} (stands : List (Stand C Rules Doc Reason)) (line : RoomLine Op C) : Type 0 where
    pub place : ℕ
    pub stand : Stand C Rules Doc Reason
    pub at : slice_get stands place ≡ Some stand
    pub by : IsPlayedBy stand line

  -- no two of these stands are of one client of one room
  abbrev pub StandsDiffer : List (Stand C Rules Doc Reason) → Type 0
  StandsDiffer stands = (i j : ℕ) (x y : Stand C Rules Doc Reason) → slice_get stands i ≡ Some x → slice_get stands j ≡ Some y → x.room ≡ y.room → x.client ≡ y.client → i ≡ j

  -- the stand's own lines among these, in order: of its room's lines those of its client
  abbrev pub stand_lines : {Op : Type 0} → Stand C Rules Doc Reason → List (RoomLine Op C) → List (Line Op C)
  stand_lines x lines = own_lines x.client (lines_in x.room lines)

  -- of the outcomes of lines, one for each, those of the stand's own lines
  abbrev pub stand_outcomes : {Op A : Type 0} → Stand C Rules Doc Reason → List (RoomLine Op C) → List A → List A
  stand_outcomes x lines outcomes = own_outcomes x.client (lines_in x.room lines) (outcomes_in x.room lines outcomes)
