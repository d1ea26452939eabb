-- A history of calls, and what a machine makes of it.
use Rattle.std.specs.Prelude.{◌≡◌, ℕ, List, [], ◌∷◌, ◌++◌, cond, ◌==◌}
use mathlib.Core.Option.{some}
use lib.ListN.{get_elem?}
use Rattle.pm_desk.specs.declared.history.Past.{Past}

-- the machine after these calls
abbrev pub state_at : {M R Q : Type 0} → (R → M → Q → M) → R → M → List (Past Q) → M
state_at next rules m [] = m
state_at next rules m (e ∷ es) = state_at next rules (next rules m e.request) es

-- what the seat with this number asked, in order
abbrev pub calls_of : {Q : Type 0} → ℕ → List (Past Q) → List Q
calls_of n [] = []
calls_of n (e ∷ es) = cond (e.seat == n) (e.request ∷ calls_of n es) (calls_of n es)

-- a call of the seat n
abbrev pub past : {Q : Type 0} → ℕ → Q → Past Q
past n q = record { seat = n; request = q }

-- ys begins with xs
abbrev pub StartsWith : {A : Type 0} → List A → List A → Type 0
StartsWith ys xs = (rest : List _) × (ys ≡ xs ++ rest)

-- What a seat has seen after it took in another begins with what each of the two had seen, and has no other call of
-- either. The seat with number n had seen xs, and the other, with number m, had seen ys.
pub record Gathers {Q : Type 0} (n : ℕ) (xs : List (Past Q)) (m : ℕ) (ys : List (Past Q)) (zs : List (Past Q)) : Type 0 where
  pub first_begins : StartsWith zs xs
  pub first_calls : calls_of n zs ≡ calls_of n xs
  pub other_begins : StartsWith zs ys
  pub other_calls : calls_of m zs ≡ calls_of m ys

-- each call is its seat's own
abbrev pub Owned : {Q : Type 0} → (ℕ → Q → Type 0) → List (Past Q) → Type 0
Owned own log = (k : ℕ) (e : Past _) → get_elem? log k ≡ some e → own e.seat e.request
