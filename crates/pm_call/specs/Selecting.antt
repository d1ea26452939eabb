-- A session played by `select`: at which lines an event that lies apart was undone, and the report.
use Rattle.std.specs.Prelude.{◌≡◌, ℕ, List, [], ◌∷◌, ◌++◌, codes, decimal}
use Rattle.pm_script.specs.declared.session.Session.{Session}
use Rattle.pm_selective.specs.Playing.{AreApartLines}
use Rattle.pm_report.specs.Words.{line}
use Rattle.pm_making.specs.Making.{makes}
use Rattle.pm_call.specs.Playing.{room_of, report_of}

-- these numbers, a blank before each
abbrev pub words_of : List ℕ → List ℕ
words_of [] = []
words_of (n ∷ numbers) = (32 ∷ decimal n) ++ words_of numbers

-- the line `apart`
abbrev pub apart_line : List ℕ → List ℕ
apart_line numbers = line (codes "apart" ++ words_of numbers)

-- The text is the session's report after the line `apart`.
-- `apart`: the line has the numbers, in file order, of the lines that undid an event that lies apart. Each of these undos left
-- the later steps, carried and spliced in order onto the document before the event.
pub record IsSelected (s : Session) (text : List ℕ) : Type 0 where
  pub numbers : List ℕ
  pub apart : AreApartLines s.head.schema (makes s.head.schema) (room_of s) s.lines numbers
  pub written : text ≡ apart_line numbers ++ report_of s
