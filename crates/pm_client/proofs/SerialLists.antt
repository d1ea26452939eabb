-- Lists of serials: how often one stands in them, and how they rise.
use Rattle.std.specs.Prelude.{◌≡◌, ℕ, zero, suc, ◌+◌, ◌≤◌, ◌<◌, ◌==◌, if◌then◌else◌, Bool, true, false, List, [], ◌∷◌, ◌++◌, refl}
use Rattle.std.specs.List.{AllByRecursion as Each}
use Rattle.std.proofs.Common.{ap, arith}
use Rattle.std.proofs.lemmas.Bool.{eqb-true, eq-eqb}
use Rattle.pm_authority.specs.declared.named.Named.{Named}
use Rattle.pm_client.specs.Kins.{IsOwn, IsForeign}
use Rattle.pm_client.proofs.Lists.{Each-append, Each-front}
use Rattle.pm_client.specs.Serials.{times, serials_of, own_serials, numbers_to, Rises}

pub times-append : (s : ℕ) (xs ys : List ℕ) → times s (xs ++ ys) ≡ times s xs + times s ys
times-append s [] ys = omega arith
times-append s (x ∷ xs) ys = omega (arith, times-append s xs ys)

pub serials-append : {C : Type 0} (xs ys : List (Named C)) → serials_of (xs ++ ys) ≡ serials_of xs ++ serials_of ys
serials-append [] ys = refl
serials-append (x ∷ xs) ys = ap (λ l. x.name.serial ∷ l) (serials-append xs ys)

pub own_serials-append : {C : Type 0} (client : ℕ) (xs ys : List (Named C)) → own_serials client (xs ++ ys) ≡ own_serials client xs ++ own_serials client ys
own_serials-append client [] ys = refl
own_serials-append client (x ∷ xs) ys = by-test (own_serials-append client xs ys) (x.name.client == client)
  where
    by-test : own_serials client (xs ++ ys) ≡ own_serials client xs ++ own_serials client ys → (b : Bool)
        → (if b then x.name.serial ∷ own_serials client (xs ++ ys) else own_serials client (xs ++ ys))
        ≡ (if b then x.name.serial ∷ own_serials client xs else own_serials client xs) ++ own_serials client ys
    by-test go true = ap (λ l. x.name.serial ∷ l) go
    by-test go false = go

-- where all steps are the client's, the own serials are all serials
pub own_serials-own : {C : Type 0} (client : ℕ) (ns : List (Named C)) → Each (IsOwn client) ns → own_serials client ns ≡ serials_of ns
own_serials-own client [] h = refl
own_serials-own client (n ∷ ns) h = rw (eq-eqb n.name.client client h.0) (ap (λ l. n.name.serial ∷ l) (own_serials-own client ns h.1))

-- where all steps are others', there are no own serials
pub own_serials-foreign : {C : Type 0} (client : ℕ) (ns : List (Named C)) → Each (IsForeign client) ns → own_serials client ns ≡ []
own_serials-foreign client [] h = refl
own_serials-foreign client (n ∷ ns) h = by-test (own_serials-foreign client ns h.1) (n.name.client == client) refl
  where
    by-test : own_serials client ns ≡ [] → (b : Bool) → (n.name.client == client) ≡ b
        → (if b then n.name.serial ∷ own_serials client ns else own_serials client ns) ≡ []
    by-test go true e = absurd (h.0 (eqb-true n.name.client client e))
    by-test go false e = go

-- what stands among the numbers to n is at most n
pub numbers-bound : (s n : ℕ) → 0 < times s (numbers_to n) → s ≤ n
numbers-bound s zero h = absurd (omega arith)
numbers-bound s (suc n) h = by-test (λ k. numbers-bound s n k) (suc n == s) refl
  where
    by-test : (0 < times s (numbers_to n) → s ≤ n) → (b : Bool) → (suc n == s) ≡ b → s ≤ suc n
    by-test go true e = omega (arith, eqb-true (suc n) s e)
    by-test go false e =
        let z : 0 < (if suc n == s then 1 else 0) + times s (numbers_to n) = h in
        let y : 0 < 0 + times s (numbers_to n) = rw e at z in
        let k : s ≤ n = go (omega arith) in
        omega arith

-- a number stands once among the numbers to n, or not at all
pub numbers-once : (s n : ℕ) → times s (numbers_to n) ≤ 1
numbers-once s zero = omega arith
numbers-once s (suc n) = by-test (numbers-once s n) (suc n == s) refl
  where
    none : (t : ℕ) → (0 < t → ⊥) → t ≡ 0
    none zero h = refl
    none (suc t) h = absurd (h (omega arith))

    by-test : times s (numbers_to n) ≤ 1 → (b : Bool) → (suc n == s) ≡ b → (if b then 1 else 0) + times s (numbers_to n) ≤ 1
    by-test go true e =
        let f : suc n ≡ s = eqb-true (suc n) s e in
        let g : times s (numbers_to n) ≡ 0 = none (times s (numbers_to n)) (λ k. let b = numbers-bound s n k in omega (arith, b, f)) in
        omega (arith, g)
    by-test go false e = omega (arith, go)

times-self : (x : ℕ) (xs : List ℕ) → 0 < times x (x ∷ xs)
times-self x xs = rw (eq-eqb x x refl) (omega arith)

-- what stands in a list no more often than among the numbers to n is at most n
pub each-bound : (n : ℕ) (xs : List ℕ) → ((s : ℕ) → times s xs ≤ times s (numbers_to n)) → Each (λ x. x ≤ n) xs
each-bound n [] h = tt
each-bound n (x ∷ xs) h = (numbers-bound x n (omega (arith, times-self x xs, h x)), each-bound n xs (λ s. omega (arith, h s)))

-- a rising list up to n, and one that rises from past n on
pub rises-append : (n : ℕ) (xs ys : List ℕ) → Rises xs → Each (λ x. x ≤ n) xs → Each (λ y. n < y) ys → Rises ys → Rises (xs ++ ys)
rises-append n [] ys h l u k = k
rises-append n (x ∷ xs) ys h l u k = (Each-append (λ y. x < y) xs ys h.0 (each-past n x ys l.0 u), rises-append n xs ys h.1 l.1 u k)
  where
    each-past : (n x : ℕ) (ys : List ℕ) → x ≤ n → Each (λ y. n < y) ys → Each (λ y. x < y) ys
    each-past n x [] l h = tt
    each-past n x (y ∷ ys) l h = (omega (arith, h.0), each-past n x ys l h.1)

-- the front of a rising list rises
pub rises-front : (xs ys : List ℕ) → Rises (xs ++ ys) → Rises xs
rises-front [] ys h = tt
rises-front (x ∷ xs) ys h = (Each-front (λ y. x < y) xs ys h.0, rises-front xs ys h.1)
