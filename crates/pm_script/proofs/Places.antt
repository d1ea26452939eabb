-- Places in lists.
use Rattle.std.proofs.Common.{◌<◌, ℕ, Bool, cond, List, length, arith}
use Rattle.std.proofs.lemmas.Bool.Decides.{nat_tests}
use Rattle.std.specs.Prelude.{position, nat_lt, not, Some, None, IfSome}
use Rattle.std.specs.List.{prefix_len}

within : (n k : ℕ) → IfSome (cond (nat_lt n k) (Some n) None) (λ i. i < k)
within n k = grind (arith, nat_tests)

pub position-within : {A : Type 0} → (p : A → Bool) (xs : List A) → IfSome (position p xs) (λ i. i < length xs)
position-within p xs = within (prefix_len (λ x. not (p x)) xs) (length xs)

pub ruleset places = (position-within)
