-- Nodes in the place of others.
use Rattle.std.specs.Prelude.{◌≡◌, ℕ, ◌+◌, List, ◌++◌, length}
use Rattle.pm_tokens.specs.Tokens.{Token}
use Rattle.pm_tokens.specs.Scan.{Balanced}

-- The tokens from..to are a whole number of nodes, and the new ones stand in their place.
pub record Placed (before : List Token) (from to : ℕ) (new after : List Token) : Type 0 where
  pub front : List Token
  pub gone : List Token
  pub rest : List Token
  pub was : before ≡ front ++ (gone ++ rest)
  pub is : after ≡ front ++ (new ++ rest)
  pub whole : Balanced gone
  pub at_from : length front ≡ from
  pub at_to : from + length gone ≡ to
