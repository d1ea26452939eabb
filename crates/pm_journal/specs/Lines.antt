-- The lines that a file stands for.
use Rattle.std.specs.Prelude.{◌≡◌, ◌≢◌, ◌⊎◌, ℕ, ◌+◌, ◌≤◌, List, [], ◌∷◌, ◌++◌, length, take, Option, None, Some, if◌then◌else◌, ◌==◌}
use Rattle.std.specs.List.{AllByRecursion}

-- the lines behind a place of the file: None where a line may begin, and else what the line has so far
abbrev pub lines_from : List ℕ → Option (List ℕ) → List (List ℕ)
lines_from [] place = []
lines_from (b ∷ rest) None = if b == 32 then lines_from rest (Some []) else []
lines_from (b ∷ rest) (Some line) = if b == 10 then line ∷ lines_from rest None else lines_from rest (Some (line ++ b ∷ []))

-- the lines of a file: each behind an open gate, a space, up to the next LF; a closed gate ends them
abbrev pub recorded : List ℕ → List (List ℕ)
recorded file = lines_from file None

-- no byte of it is LF
abbrev pub IsLine : List ℕ → Type 0
IsLine line = AllByRecursion (λ b. b ≢ 10) line

-- the lines, each between an open gate and LF
abbrev pub records : List (List ℕ) → List ℕ
records [] = []
records (line ∷ lines) = 32 ∷ (line ++ 10 ∷ records lines)

-- the file is these lines, a closed gate, and whatever stands behind it
pub record IsAtRest (lines : List (List ℕ)) (file : List ℕ) : Type 0 where
  pub gate : ℕ
  pub rest : List ℕ
  pub are_lines : AllByRecursion IsLine lines
  pub whole : file ≡ records lines ++ gate ∷ rest
  pub closed : gate ≢ 32

-- the file stands for the lines, with all of the new ones or with none
abbrev pub IsBeforeOrAfter : List (List ℕ) → List (List ℕ) → List ℕ → Type 0
IsBeforeOrAfter lines new file = (recorded file ≡ lines) ⊎ (recorded file ≡ lines ++ new)

-- these are the old lines and the first of the new ones: those that are acknowledged, and maybe one more
pub record HasFirst (old new : List (List ℕ)) (told : ℕ) (found : List (List ℕ)) : Type 0 where
  pub count : ℕ
  pub all_told : told ≤ count
  pub one_more : count ≤ told + 1
  pub within : count ≤ length new
  pub is : found ≡ old ++ take count new

-- ---- lines that come together

-- the lines of a text, which stands behind an open gate and before LF
abbrev pub lines_of : List ℕ → List (List ℕ)
lines_of text = recorded (32 ∷ (text ++ 10 ∷ []))

-- the text is lines, LF and an open gate between any two
pub record HoldsLines (text : List ℕ) : Type 0 where
  pub are_lines : AllByRecursion IsLine (lines_of text)
  pub whole : records (lines_of text) ≡ 32 ∷ (text ++ 10 ∷ [])

-- ---- for private clauses

-- it begins with a closed gate
abbrev pub HasClosedGate : List ℕ → Type 0
HasClosedGate [] = ⊥
HasClosedGate (gate ∷ rest) = gate ≢ 32
