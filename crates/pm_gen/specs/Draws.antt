-- Numbers drawn one after another from a first one.
use Rattle.std.specs.Prelude.{ℕ, ◌+◌, ◌*◌, ◌/◌, ◌%◌, ◌^◌}

-- the number after a number
unfoldable pub next : ℕ → ℕ
next x = (x * 6364136223846793005 + 1442695040888963407) % 2 ^ 64

-- What a draw below n gives where the number is x before it: the upper bits of the number after x tell it. That number is
-- the one that the next draw begins with.
unfoldable pub draw : ℕ → ℕ → ℕ
draw n x = (next x / 2 ^ 33) % n
