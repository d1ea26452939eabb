-- What stands at a position of a content.
use Rattle.std.specs.Prelude.{ℕ, Bool, false, Option, Some, None, List, [], ◌∷◌, reverse, take, drop}
use Rattle.std.specs.Char.Utf16.{is_high_surrogate, is_low_surrogate}
use Rattle.pm_tokens.specs.Tokens.{Token, Open, Close, Leaf, CodeUnit}
use Rattle.pm_tokens.specs.Scan.{around}

-- the unit that is the first token, if it is one
abbrev pub first_unit : List Token → Option ℕ
first_unit [] = None
first_unit (Open k a m ∷ ts) = None
first_unit (Close ∷ ts) = None
first_unit (Leaf k a m ∷ ts) = None
first_unit (CodeUnit u m ∷ ts) = Some u

-- the unit that is the token after a position
abbrev pub unit_at : List Token → ℕ → Option ℕ
unit_at ts p = first_unit (drop p ts)

-- the opens of the nodes around a position, the outermost first
abbrev pub path : List Token → ℕ → List Token
path ts p = reverse (around [] (take p ts))

-- it is a unit, and the first of a pair
abbrev pub high_unit : Option ℕ → Bool
high_unit None = false
high_unit (Some u) = is_high_surrogate u

-- it is a unit, and the second of a pair
abbrev pub low_unit : Option ℕ → Bool
low_unit None = false
low_unit (Some u) = is_low_surrogate u
