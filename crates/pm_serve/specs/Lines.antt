-- Lines among bytes.
use Rattle.std.specs.Prelude.{◌≡◌, ℕ, false, List, [], ◌∷◌, ◌++◌}
use Rattle.pm_serve.specs.Bytes.{has_lf}

-- each line with its LF
abbrev pub with_lf : List (List ℕ) → List ℕ
with_lf [] = []
with_lf (l ∷ ls) = l ++ 10 ∷ with_lf ls

-- no line has an LF in it
abbrev pub AreLines : List (List ℕ) → Type 0
AreLines [] = Unit {0}
AreLines (l ∷ ls) = (has_lf l ≡ false) × AreLines ls
