-- Reading a list one by one: what was read so far, and then the rest.
use Rattle.std.specs.Prelude.{◌≡◌, List, [], ◌∷◌, ◌++◌, Result, Ok, Err, Option, Some, None, refl}
use Rattle.std.proofs.Common.{ap, append_assoc}
use Rattle.std.proofs.lemmas.List.{append-nil}

-- go on with what was read, or stay with its fault
infixl 10 ◌>>=◌
abbrev pub ◌>>=◌ : {A B E : Type 0} → Result A E → (A → Result B E) → Result B E
(Ok x) >>= f = f x
(Err e) >>= f = Err e

-- the value, or a fault where there is none
abbrev pub or_fault : {A E : Type 0} → E → Option A → Result A E
or_fault e None = Err e
or_fault e (Some x) = Ok x

-- these items, and then those that the reading gives
abbrev pub with_front : {A E : Type 0} → List A → Result (List A) E → Result (List A) E
with_front front (Ok rest) = Ok (front ++ rest)
with_front front (Err e) = Err e

pub with_front-nil : {A E : Type 0} → (r : Result (List A) E) → with_front [] r ≡ r
with_front-nil (Ok rest) = refl
with_front-nil (Err e) = refl

-- one more item at the end of the front
pub with_front-more : {A E : Type 0} → (front : List A) (x : A) (r : Result (List A) E) → with_front (front ++ x ∷ []) r ≡ with_front front (r >>= λ rest. Ok (x ∷ rest))
with_front-more front x (Ok rest) = ap Ok (append_assoc front (x ∷ []) rest)
with_front-more front x (Err e) = refl

pub with_front-all : {A E : Type 0} → (front : List A) → with_front {E = E} front (Ok []) ≡ Ok front
with_front-all front = ap Ok (append-nil front)

pub ruleset fronts = (with_front-nil, with_front-more, with_front-all)
