-- The language of a content expression: the lists of types that it allows, by cases.
use Rattle.std.specs.Prelude.{◌≡◌, ℕ, ◌≤◌, max, List, [], ◌∷◌, Option, Some, None, ◌⊎◌}
use Rattle.pm_auto.specs.Core.{Joined, Times}
use Rattle.pm_auto.specs.declared.expr.Expr.{Expr, Empty, One, Choice', Seq', Plus', Star', Opt', Range', Row_of-Expr, end_of-Expr, more_of-Expr}

-- k is one of the numbers n to m; any number from n on where m is absent, n alone where m is below n
abbrev pub Within : ℕ → Option ℕ → ℕ → Type 0
Within n None k = n ≤ k
Within n (Some m) k = (n ≤ k) × (k ≤ max n m)

-- some allowed number of lists of P, one after another
abbrev pub Many : (ℕ → Type 0) → (List ℕ → Type 0) → List ℕ → Type 0
Many C P w = (k : ℕ) × C k × Times P k w

abbrev mutual
  -- the list of types is in the language of the expression
  pub In : Expr → List ℕ → Type 0
  In Empty w = w ≡ []
  In (One t) w = w ≡ t ∷ []
  In (Choice' n es) w = In_some es w
  In (Seq' n es) w = In_turn es w
  In (Plus' p e) w = Many (Within 1 None) (In e) w
  In (Star' p e) w = Many (Within 0 None) (In e) w
  In (Opt' p e) w = Many (Within 0 (Some 1)) (In e) w
  In (Range' p e n m) w = Many (Within n m) (In e) w

  -- it is in the language of one of the alternatives
  pub In_some : {m : _} → Row_of-Expr m → List ℕ → Type 0
  In_some end_of-Expr w = ⊥
  In_some (more_of-Expr e es) w = In e w ⊎ In_some es w

  -- it is a list of each part, one after another
  pub In_turn : {m : _} → Row_of-Expr m → List ℕ → Type 0
  In_turn end_of-Expr w = w ≡ []
  In_turn (more_of-Expr e es) w = Joined (In e) (In_turn es) w
