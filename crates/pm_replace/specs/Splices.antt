-- What splicing gives.
use Rattle.std.specs.Prelude.{◌≡◌, ◌≤◌, ℕ, Bool, true, false, List, [], length, Result, MatchResult}
use Rattle.pm_tokens.specs.Tokens.{Token, Doc, with_tokens}
use Rattle.pm_tokens.specs.Scan.{Owned, plain, joins, owned, Balanced}
use Rattle.pm_tokens.specs.Schemas.{Schema, compatible, max_size}
use Rattle.pm_build.specs.Fed.{ForJoin}
use Rattle.pm_build.specs.declared.refused.Refused.{Refused}
use Rattle.pm_build.specs.declared.refused.Refused.TheVariants as refused
use Rattle.pm_change.specs.declared.failed.Failed.{Failed}
use Rattle.pm_change.specs.declared.failed.Failed.TheVariants as failed
use Rattle.pm_meaning.specs.declared.reason.Reason.{Reason}
use Rattle.pm_meaning.specs.declared.reason.Reason.TheVariants as reason
use Rattle.pm_meaning.specs.Outcomes.{unless, checked}

-- the list joins and these are its tokens, or it does not join; running out of memory may come with any
abbrev pub Splices : (ℕ → ℕ → Bool) → List Owned → Result (List Token) Refused → Type 0
Splices c piece r = MatchResult r (λ ts. (joins c [] piece ≡ true) × (ts ≡ plain piece)) (ForJoin (joins c [] piece ≡ false))

-- the list is these tokens, a whole number of nodes, with their own owners
pub record IsWhole (piece : List Owned) (ts : List Token) : Type 0 where
  pub owners : piece ≡ owned [] ts
  pub whole : Balanced ts

-- the list joins, or it does not
abbrev pub Joins : (ℕ → ℕ → Bool) → List Owned → Result (Unit {0}) Refused → Type 0
Joins c piece r = MatchResult r (λ _. joins c [] piece ≡ true) (ForJoin (joins c [] piece ≡ false))

-- a refusal, as the reason of a step
abbrev pub failed_of : Refused → Failed Reason
failed_of refused.Join = failed.Reason reason.Join
failed_of refused.NoMemory = failed.NoMemory

-- the document with these tokens, where they join and have no fault
abbrev pub spliced_outcome : Schema → Doc → List Owned → Result Doc Reason
spliced_outcome s d piece = unless (joins (compatible s) [] piece) reason.Join (checked s (with_tokens d (plain piece)))

-- the list joins, and these are its tokens, which are not too many for a document
pub record Made (s : Schema) (piece : List Owned) (ts : List Token) : Type 0 where
  pub joined : joins (compatible s) [] piece ≡ true
  pub is : ts ≡ plain piece
  pub size : length ts ≤ max_size s
