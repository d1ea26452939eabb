-- The greatest number of steps of a search.
use Rattle.std.specs.Prelude.{ℕ, zero, suc, ◌+◌, ◌/◌}

-- how often a number can be halved, rounded down, before it is 0, and at most so often
abbrev pub halvings : ℕ → ℕ → ℕ
halvings zero n = 0
halvings (suc most) zero = 0
halvings (suc most) (suc n) = suc (halvings most (suc n / 2))

-- the number of binary digits, where 0 has none
unfoldable pub digits : ℕ → ℕ
digits n = halvings n n

-- the steps that a search among so many items takes at most
unfoldable pub find_bound : ℕ → ℕ
find_bound count = 6 + digits ((count + 31) / 32)
