-- Which numbers are in a set that is kept as the bits of words.
use Rattle.std.specs.Prelude.{ℕ, zero, suc, ◌*◌, ◌/◌, ◌%◌, List, [], ◌∷◌, ◌++◌, Bool, cond, eqb, length, slice_index_or}
use Rattle.std.specs.Int.{bit_at}

-- the number is in the set
abbrev pub is_in : List ℕ → ℕ → Bool
is_in ws j = eqb (bit_at (slice_index_or ws (j / 64) 0) (j % 64)) 1

-- the numbers below n that are in the set, ascending
abbrev pub members_below : List ℕ → ℕ → List ℕ
members_below ws zero = []
members_below ws (suc n) = members_below ws n ++ cond (is_in ws n) (n ∷ []) []

-- the numbers that are in the set, ascending
abbrev pub members : List ℕ → List ℕ
members ws = members_below ws (64 * length ws)
