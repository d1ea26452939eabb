-- What feeding a part of a document to a builder gives.
use Rattle.std.specs.Prelude.{◌≡◌, ℕ, Bool, true, false, List, [], ◌++◌, Result, MatchResult}
use Rattle.pm_tokens.specs.Tokens.{Token}
use Rattle.pm_tokens.specs.Scan.{Owned, plain, joins, unclosed}
use Rattle.pm_build.specs.declared.refused.Refused.{Refused}
use Rattle.pm_build.specs.declared.refused.Refused.TheVariants.{Join, NoMemory}

-- a refusal for a join has the cause P; running out of memory has none
abbrev pub ForJoin : Type 0 → Refused → Type 0
ForJoin P Join = P
ForJoin P NoMemory = Unit {0}

-- the piece was appended and each of its closes met an open node of a fitting kind
pub record Appended (c : ℕ → ℕ → Bool) (before : List Token) (piece : List Owned) (after : List Token) : Type 0 where
  pub tokens : after ≡ before ++ plain piece
  pub joined : joins c (unclosed [] before) piece ≡ true

abbrev pub Fed : (ℕ → ℕ → Bool) → List Token → List Owned → Result (Unit {0}) Refused → List Token → Type 0
Fed c before piece r after = MatchResult r (λ _. Appended c before piece after) (ForJoin (joins c (unclosed [] before) piece ≡ false))

-- the piece was passed over: each of its closes met an open node of a fitting type, and these types are open after it
pub record Crossed (c : ℕ → ℕ → Bool) (before : List ℕ) (piece : List Owned) (after : List ℕ) : Type 0 where
  pub opened : after ≡ unclosed before (plain piece)
  pub joined : joins c before piece ≡ true

abbrev pub Crosses : (ℕ → ℕ → Bool) → List ℕ → List Owned → Result (Unit {0}) Refused → List ℕ → Type 0
Crosses c before piece r after = MatchResult r (λ _. Crossed c before piece after) (ForJoin (joins c before piece ≡ false))
