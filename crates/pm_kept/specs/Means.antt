-- What is known of a service whose lines may be kept.
use Rattle.std.specs.Prelude.{◌≡◌, ◌≢◌, ℕ, Bool, true, false, List, Option, None}

-- what a service answers to lines, and what they make of it
pub record Meaning (S : Type 0) : Type 1 where
  -- what holds of it before and after each line
  pub good : S → Type 0
  -- what it may answer to a line, whether further lines are answered, and what it is then
  pub replies : S → List ℕ → List ℕ → Bool → S → Type 0
  -- what it says at the end of input
  pub last : S → List ℕ
  -- what it says where it stands behind the lines of a file
  pub resumed : S → List ℕ
  -- what it is before its first line
  pub start : S
  -- Whether its accepted lines are in the file. Before it has begun they are held.
  pub is_begun : S → Bool
  -- what it is with this limit of work, in tokens, or with none
  pub limited : Option ℕ → S → S

-- the service without its limit
abbrev pub unlimited : {S : Type 0} → Meaning S → S → S
unlimited m s = m.limited None s

-- The laws of services whose lines are kept.
pub record Laws {S : Type 0} (m : Meaning S) : Type 0 where
  -- a line after which no further one is answered changes nothing
  pub closes : (was : S) (line text : List ℕ) (next : S) → m.replies was line text false next → next ≡ was
  -- what has begun stays so
  pub stays_begun : (was : S) (line text : List ℕ) (more : Bool) (next : S) → m.replies was line text more next → m.is_begun was ≡ true → m.is_begun next ≡ true
  -- its limit stays
  pub stays_limited : (limit : Option ℕ) (was : S) (line text : List ℕ) (more : Bool) (next : S) → m.replies was line text more next
      → m.limited limit was ≡ was → m.limited limit next ≡ next
  -- a line that changes it changes it so without its limit too
  pub accepts : (was : S) (line text : List ℕ) (more : Bool) (next : S) → m.replies was line text more next → next ≢ was
      → m.replies (unlimited m was) line text more (unlimited m next) × (unlimited m next ≢ unlimited m was)
  -- before its first line it has no limit
  pub starts : unlimited m m.start ≡ m.start
  -- a limit is in place of another, and nothing else
  pub relimits : (limit : Option ℕ) (s : S) → unlimited m (m.limited limit s) ≡ unlimited m s
  pub still_begun : (limit : Option ℕ) (s : S) → m.is_begun (m.limited limit s) ≡ m.is_begun s
