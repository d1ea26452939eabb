-- The lines of a session in many rooms, and those of one of the rooms.
use Rattle.std.specs.Prelude.{ℕ, List, [], ◌∷◌, cond, ◌==◌}
use Rattle.pm_session.specs.declared.line.Line.{Line}
use Rattle.pm_rooms.specs.declared.line.RoomLine.{RoomLine}

module _ {Op C : Type 0} where
  -- the lines of room r, in order
  abbrev pub lines_in : ℕ → List (RoomLine Op C) → List (Line Op C)
  lines_in r [] = []
  lines_in r (l ∷ lines) = cond (l.room == r) (l.line ∷ lines_in r lines) (lines_in r lines)

  -- of the outcomes of lines, one for each, those of room r's lines
  abbrev pub outcomes_in : {A : Type 0} → ℕ → List (RoomLine Op C) → List A → List A
  outcomes_in r [] outcomes = []
  outcomes_in r (l ∷ lines) [] = []
  outcomes_in r (l ∷ lines) (o ∷ outcomes) = cond (l.room == r) (o ∷ outcomes_in r lines outcomes) (outcomes_in r lines outcomes)
