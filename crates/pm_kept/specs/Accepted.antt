-- Whether a line is accepted, for private clauses.
use Rattle.std.specs.Prelude.{◌≡◌, ◌≢◌, ℕ, Bool, List, MatchBool}
use Rattle.pm_kept.specs.Means.{Meaning}

-- it was answered, and is accepted if it changed something
pub record Tried {S : Type 0} (m : Meaning S) (was : S) (line : List ℕ) (is : Bool) (next : S) : Type 0 where
  pub text : List ℕ
  pub more : Bool
  pub replies : m.replies was line text more next
  pub decides : MatchBool is (next ≢ was) (next ≡ was)
