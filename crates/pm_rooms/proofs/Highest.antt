-- The highest of the numbers that were looked at.
use Rattle.std.proofs.Common.{ℕ, ◌+◌, ◌<◌, ◌≤◌, subst, arith}
use mathlib.Core.Logic.{dite}
use native.Mathlib.Decide.{ℕ_discrete}

-- one more number
pub most-next : (f : ℕ → ℕ) (k highest after : ℕ) → highest ≤ after → f k ≤ after → ((j : ℕ) → j < k → f j ≤ highest) → (j : ℕ) → j < k + 1 → f j ≤ after
most-next f k highest after more here h j lt = dite (ℕ_discrete k j)
    (λ e. subst (λ i. f i ≤ after) e here)
    (λ ne. let b = h j (omega (arith, lt, ne)) in omega (arith, b, more))
