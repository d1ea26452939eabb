-- The summary of a generated session.
use Rattle.std.specs.Prelude.{ℕ, ◌*◌, List, [], ◌∷◌, ◌++◌, codes, decimal}
use Rattle.pm_gen.specs.Lines.{joined}

-- a word and a number, with a blank between them, as a line
abbrev pub counted : List ℕ → ℕ → List (List ℕ)
counted word n = word ∷ codes " " ∷ decimal n ∷ codes "\n" ∷ []

-- the numbers that the session is made from
abbrev pub made_from : (clients rounds number : ℕ) → List ℕ
made_from clients rounds number = joined (codes "gen " ∷ decimal clients ∷ codes " " ∷ decimal rounds ∷ codes " " ∷ decimal number ∷ codes "\n" ∷ [])

-- the op lines, the log's length, how many steps were dropped, and the size of the document
abbrev pub counts : (lines log dropped size : ℕ) → List ℕ
counts lines log dropped size = joined (counted (codes "lines") lines ++ counted (codes "log") log ++ counted (codes "dropped") dropped ++ counted (codes "size") size)

abbrev pub summary_text : (clients rounds number log dropped size : ℕ) → List ℕ
summary_text clients rounds number log dropped size = made_from clients rounds number ++ counts (clients * rounds) log dropped size
