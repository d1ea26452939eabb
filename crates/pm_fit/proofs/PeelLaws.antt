-- The first that fits of peelings, and of sides that fall.
use Rattle.std.specs.Prelude.{◌≡◌, ℕ, ◌+◌, ◌-◌, ◌≤◌, ◌<◌, Bool, true, false, if◌then◌else◌, nat_lt, is_some, Option, None, List, [], ◌∷◌, ◌++◌, length, drop, map, flat_map, Result, IfOk}
use Rattle.std.proofs.Common.{zero, suc, refl, ap, sym, subst, arith, length-drop}
use Rattle.std.proofs.lemmas.Result.{IfOk-weaker}
use Rattle.std.proofs.lemmas.List.{length-take-le}
use Rattle.std.proofs.lemmas.Bool.Decides.{nat_tests}
use Rattle.pm_tokens.specs.Tokens.{Token, Doc}
use Rattle.pm_tokens.specs.Slices.{Slice}
use Rattle.pm_slice.specs.Sides.{sides}
use Rattle.pm_meaning.specs.Steps.{Step}
use Rattle.pm_schema.specs.declared.schema.Schema.{Schema}
use Rattle.pm_fit.specs.Candidates.{Candidate, can_be_peeled, inside, peeled, peelings, falling}
use Rattle.pm_fit.specs.Firsts.{IsFirst}
use Rattle.pm_fit.proofs.FirstLaws.{none, found, on}
use Rattle.std.proofs.lemmas.Bool.{and_parts}

lt-true : (a b : ℕ) → nat_lt a b ≡ true → a < b
lt-true a b h = grind (arith, nat_tests)

-- what can be peeled has an open, a close and something between
pub can-more : (ts : List Token) → can_be_peeled ts ≡ true → 2 < length ts
can-more ts h = lt-true 2 (length ts) (and_parts _ (nat_lt 2 (length ts)) h).1

pub inside-less : (ts : List Token) → 2 < length ts → length (inside ts) + 2 ≡ length ts
inside-less ts h =
    let n = length ts - 1 - 1 in
    let fits : n ≤ length (drop 1 ts) = omega (arith, length-drop 1 ts) in
    let e : length (inside ts) ≡ n = length-take-le n (drop 1 ts) fits in
    omega (arith, e)

module _ (s : Schema) (d : Doc) (from to : ℕ) where
  -- ---- peelings

  module _ (f : Slice → List Candidate) where
    pub peel-found : (most : ℕ) (sl : Slice) (o : Option Step) → IsFirst s d from to (f sl) o → is_some o ≡ true → IsFirst s d from to (flat_map f (peelings most sl)) o
    peel-found zero sl o h e = found s d from to h e []
    peel-found (suc most) sl o h e = found s d from to h e (flat_map f (if can_be_peeled sl.content then peelings most (peeled sl) else []))

    pub peel-end : (most : ℕ) (sl : Slice) (o : Option Step) → can_be_peeled sl.content ≡ false → IsFirst s d from to (f sl) o → o ≡ None → IsFirst s d from to (flat_map f (peelings most sl)) None
    peel-end zero sl o q h e = on s d from to h e (none s d from to)
    peel-end (suc most) sl o q h e = on s d from to h e (subst (λ (b : Bool). IsFirst s d from to (flat_map f (if b then peelings most (peeled sl) else [])) None) (sym q) (none s d from to))

    pub peel-on : {X E : Type 0} (r : Result X E) (g : X → Option Step) (most : ℕ) (sl : Slice) (inner : List Token) (o : Option Step) → length sl.content ≤ most → can_be_peeled sl.content ≡ true → inner ≡ inside sl.content → IsFirst s d from to (f sl) o → o ≡ None
        → ((k : ℕ) → length inner ≤ k → IfOk r (λ x. IsFirst s d from to (flat_map f (peelings k (sides inner (sl.open_start - 1) (sl.open_end - 1)))) (g x)))
        → IfOk r (λ x. IsFirst s d from to (flat_map f (peelings most sl)) (g x))
    peel-on r g zero sl inner o l q i h e ih = absurd (omega (arith, l, can-more sl.content q))
    peel-on r g (suc most) sl inner o l q i h e ih =
        let m = can-more sl.content q in
        IfOk-weaker r (λ x. IsFirst s d from to (flat_map f (peelings most (sides inner (sl.open_start - 1) (sl.open_end - 1)))) (g x)) (λ x. IsFirst s d from to (flat_map f (peelings (suc most) sl)) (g x))
        (λ x p. subst (λ (b : Bool). IsFirst s d from to (f sl ++ flat_map f (if b then peelings most (peeled sl) else [])) (g x)) (sym q)
        (on s d from to h e (subst (λ (z : List Token). IsFirst s d from to (flat_map f (peelings most (sides z (sl.open_start - 1) (sl.open_end - 1)))) (g x)) i p)))
        (ih most (omega (arith, l, m, inside-less sl.content m, ap length i)))

  -- ---- sides that fall

  module _ (f : ℕ → List Candidate) where
    pub fall-found : (a : ℕ) (o : Option Step) → IsFirst s d from to (f a) o → is_some o ≡ true → IsFirst s d from to (flat_map f (falling a)) o
    fall-found zero o h e = found s d from to h e []
    fall-found (suc a) o h e = found s d from to h e (flat_map f (falling a))

    pub fall-end : (a : ℕ) (o : Option Step) → a ≡ 0 → IsFirst s d from to (f a) o → o ≡ None → IsFirst s d from to (flat_map f (falling a)) None
    fall-end zero o z h e = on s d from to h e (none s d from to)
    fall-end (suc a) o z h e = absurd (omega (arith, z))

    pub fall-on : {X E : Type 0} (r : Result X E) (g : X → Option Step) (a : ℕ) (o : Option Step) → (a ≡ 0 → ⊥) → IsFirst s d from to (f a) o → o ≡ None
        → IfOk r (λ x. IsFirst s d from to (flat_map f (falling (a - 1))) (g x)) → IfOk r (λ x. IsFirst s d from to (flat_map f (falling a)) (g x))
    fall-on r g zero o z h e ih = absurd (z refl)
    fall-on r g (suc a) o z h e ih =
        let same : suc a - 1 ≡ a = omega arith in
        IfOk-weaker r (λ x. IsFirst s d from to (flat_map f (falling (suc a - 1))) (g x)) (λ x. IsFirst s d from to (flat_map f (falling (suc a))) (g x))
        (λ x p. on s d from to h e (subst (λ (n : ℕ). IsFirst s d from to (flat_map f (falling n)) (g x)) same p)) ih

-- one candidate for each
pub map-flat : {A : Type 0} (f : A → Candidate) (xs : List A) → map f xs ≡ flat_map (λ x. f x ∷ []) xs
map-flat f [] = refl
map-flat f (x ∷ xs) = ap (λ z. f x ∷ z) (map-flat f xs)
