-- Pairs of a step back and of a carried step.
use Rattle.std.specs.Prelude.{◌≡◌, ℕ, zero, suc, ◌+◌, ◌-◌, ◌<◌, ◌≤◌, ◌==◌, Bool, true, false, List, [], ◌∷◌, ◌++◌, length, reverse, drop, refl, if◌then◌else◌}
use Rattle.std.proofs.Common.{get_or, sym, ap, ◌∙◌, arith, append_assoc, append-nil}
use Rattle.std.proofs.Math.Seq.{drop-cons}
use Rattle.std.proofs.lemmas.Bool.{eqb-true}
use Rattle.std.proofs.lemmas.List.{reverse-append, length-reverse, get_or-reverse}
use Rattle.pm_meaning.specs.Steps.{Step}
use Rattle.pm_authority.specs.declared.named.Named.{Named}
use Rattle.pm_told.specs.Showing.{pairs_of, pair_of, is_next, sum}

sum-append : (xs ys : List ℕ) → sum (xs ++ ys) ≡ sum xs + sum ys
sum-append [] ys = omega arith
sum-append (x ∷ xs) ys =
    let rest : sum (xs ++ ys) ≡ sum xs + sum ys = sum-append xs ys in
    omega arith

-- the other way round the sum is the same
pub sum-reverse : (ns : List ℕ) → sum (reverse ns) ≡ sum ns
sum-reverse [] = refl
sum-reverse (n ∷ ns) =
    let parts : sum (reverse (n ∷ ns)) ≡ sum (reverse ns) + sum (n ∷ []) = ap sum (reverse-append (n ∷ []) ns) ∙ sum-append (reverse ns) (n ∷ []) in
    let rest : sum (reverse ns) ≡ sum ns = sum-reverse ns in
    omega arith

-- no pairs where none is kept
no-pairs : (ps : List (Named Step)) (zs : List ℕ) (place : ℕ) → pairs_of ps zs [] place ≡ []
no-pairs [] zs place = refl
no-pairs (p ∷ ps) [] place = refl
no-pairs (p ∷ ps) (z ∷ zs) place = refl

-- the pairs of one pending step more that was kept
next-pair : (p : Named Step) (ps : List (Named Step)) (z : ℕ) (zs : List ℕ) (ks : List (Named Step)) (place : ℕ) → is_next ks p ≡ true
    → pairs_of (p ∷ ps) (z ∷ zs) ks place ≡ pair_of z (sum zs) place ++ pairs_of ps zs (drop 1 ks) (place + 1)
next-pair p ps z zs [] place e = absurd (cc)
next-pair p ps z zs (k ∷ ks) place e = rw e refl

-- and of one that was lost
lost-pair : (p : Named Step) (ps : List (Named Step)) (z : ℕ) (zs : List ℕ) (ks : List (Named Step)) (place : ℕ) → is_next ks p ≡ false
    → pairs_of (p ∷ ps) (z ∷ zs) ks place ≡ pairs_of ps zs ks place
lost-pair p ps z zs [] place e = sym (no-pairs ps zs place)
lost-pair p ps z zs (k ∷ ks) place e = rw e refl

-- no step is next past the end
pub next-within : (ks : List (Named Step)) (n : ℕ) (p : Named Step) → is_next (drop n ks) p ≡ true → n < length ks
next-within [] zero p e = absurd (cc)
next-within [] (suc n) p e = absurd (cc)
next-within (k ∷ ks) zero p e = omega arith
next-within (k ∷ ks) (suc n) p e =
    let rest : n < length ks = next-within ks n p e in
    omega arith

abbrev one_of : ℕ → ℕ → List (ℕ × ℕ)
one_of at place = (at, place) ∷ []

-- one step taken back makes a pair
one-pair : (z at place : ℕ) → z ≡ 1 → pair_of z at place ≡ (at, place) ∷ []
one-pair z at place e = rw e refl

more-pair : (z at place : ℕ) → (z ≡ 1 → ⊥) → pair_of z at place ≡ []
more-pair z at place h = by-test (z == 1) refl
  where
    by-test : (b : Bool) → (z == 1) ≡ b → (if b then one_of at place else []) ≡ []
    by-test true e = absurd (h (eqb-true z 1 e))
    by-test false e = refl

module _ (sizes : List ℕ) (pending kept : List (Named Step)) (first i count place : ℕ) (p : Named Step) (all pairs : List (ℕ × ℕ))
    (so_far : pairs ++ pairs_of (drop i pending) (drop i (reverse sizes)) (drop count kept) (first + count) ≡ all)
    (place_is : place ≡ sum (drop i (reverse sizes))) (same : length sizes ≡ length pending) (more : i < length pending) (p_is : p ≡ get_or pending i p) where
  pending-at : drop i pending ≡ p ∷ drop (i + 1) pending
  pending-at =
      let e : suc i ≡ i + 1 = omega arith in
      drop-cons pending i p more ∙ ap (λ (x : Named Step). x ∷ drop (suc i) pending) (sym p_is) ∙ ap (λ (n : ℕ). p ∷ drop n pending) e

  sizes-at : drop i (reverse sizes) ≡ get_or sizes (length sizes - 1 - i) 0 ∷ drop (i + 1) (reverse sizes)
  sizes-at =
      let e : suc i ≡ i + 1 = omega arith in
      let count : length (reverse sizes) ≡ length sizes = length-reverse sizes in
      let in_sizes : i < length sizes = omega arith in
      let in_reverse : i < length (reverse sizes) = omega arith in
      drop-cons (reverse sizes) i 0 in_reverse ∙ ap (λ (z : ℕ). z ∷ drop (suc i) (reverse sizes)) (get_or-reverse sizes i 0 in_sizes)
      ∙ ap (λ (n : ℕ). get_or sizes (length sizes - 1 - i) 0 ∷ drop n (reverse sizes)) e

  -- the place before the steps that take this one back
  pub place-before : place ≡ get_or sizes (length sizes - 1 - i) 0 + sum (drop (i + 1) (reverse sizes))
  place-before = place_is ∙ ap sum sizes-at

  here : pairs ++ pairs_of (p ∷ drop (i + 1) pending) (get_or sizes (length sizes - 1 - i) 0 ∷ drop (i + 1) (reverse sizes)) (drop count kept) (first + count) ≡ all
  here =
      ap (λ (zs : List ℕ). pairs ++ pairs_of (p ∷ drop (i + 1) pending) zs (drop count kept) (first + count)) (sym sizes-at)
      ∙ ap (λ (ps : List (Named Step)). pairs ++ pairs_of ps (drop i (reverse sizes)) (drop count kept) (first + count)) (sym pending-at) ∙ so_far

  -- the step was lost
  pub goes-lost : is_next (drop count kept) p ≡ false → (new : List (ℕ × ℕ)) (next : ℕ) → new ≡ pairs → next ≡ count
      → new ++ pairs_of (drop (i + 1) pending) (drop (i + 1) (reverse sizes)) (drop next kept) (first + next) ≡ all
  goes-lost e new next new_is next_is =
      rw (new_is, next_is)
      (ap (λ (l : List (ℕ × ℕ)). pairs ++ l)
      (sym (lost-pair p (drop (i + 1) pending) (get_or sizes (length sizes - 1 - i) 0) (drop (i + 1) (reverse sizes)) (drop count kept) (first + count) e)) ∙ here)

  -- the step was kept
  module _ (e : is_next (drop count kept) p ≡ true) (new : List (ℕ × ℕ)) (next : ℕ) (next_is : next ≡ count + 1) where
    rest-at : pairs_of (drop (i + 1) pending) (drop (i + 1) (reverse sizes)) (drop next kept) (first + next)
        ≡ pairs_of (drop (i + 1) pending) (drop (i + 1) (reverse sizes)) (drop 1 (drop count kept)) (first + count + 1)
    rest-at =
        let past : next ≡ suc count = omega arith in
        let at : first + next ≡ first + count + 1 = omega arith in
        let within : count < length kept = next-within kept count p e in
        ap (λ (n : ℕ). pairs_of (drop (i + 1) pending) (drop (i + 1) (reverse sizes)) (drop next kept) n) at
        ∙ ap (λ (n : ℕ). pairs_of (drop (i + 1) pending) (drop (i + 1) (reverse sizes)) (drop n kept) (first + count + 1)) past
        ∙ ap (λ (ks : List (Named Step)). pairs_of (drop (i + 1) pending) (drop (i + 1) (reverse sizes)) (drop 1 ks) (first + count + 1)) (sym (drop-cons kept count p within))

    pub goes-kept : new ≡ pairs ++ pair_of (get_or sizes (length sizes - 1 - i) 0) (sum (drop (i + 1) (reverse sizes))) (first + count)
        → new ++ pairs_of (drop (i + 1) pending) (drop (i + 1) (reverse sizes)) (drop next kept) (first + next) ≡ all
    goes-kept new_is =
        rw (new_is, rest-at)
        (append_assoc pairs (pair_of (get_or sizes (length sizes - 1 - i) 0) (sum (drop (i + 1) (reverse sizes))) (first + count)) _
        ∙ ap (λ (l : List (ℕ × ℕ)). pairs ++ l)
        (sym (next-pair p (drop (i + 1) pending) (get_or sizes (length sizes - 1 - i) 0) (drop (i + 1) (reverse sizes)) (drop count kept) (first + count) e)) ∙ here)

    -- and is taken back by one step
    pub goes-paired : get_or sizes (length sizes - 1 - i) 0 ≡ 1 → new ≡ pairs ++ ((place - get_or sizes (length sizes - 1 - i) 0, first + count) ∷ [])
        → new ++ pairs_of (drop (i + 1) pending) (drop (i + 1) (reverse sizes)) (drop next kept) (first + next) ≡ all
    goes-paired one new_is =
        let before = place-before in
        let at : place - get_or sizes (length sizes - 1 - i) 0 ≡ sum (drop (i + 1) (reverse sizes)) = omega (arith, before) in
        goes-kept (
        new_is ∙ ap (λ (n : ℕ). pairs ++ ((n, first + count) ∷ [])) at
        ∙ ap (λ (l : List (ℕ × ℕ)). pairs ++ l) (sym (one-pair (get_or sizes (length sizes - 1 - i) 0) (sum (drop (i + 1) (reverse sizes))) (first + count) one))
        )

    -- or by none or several
    pub goes-alone : (get_or sizes (length sizes - 1 - i) 0 ≡ 1 → ⊥) → new ≡ pairs
        → new ++ pairs_of (drop (i + 1) pending) (drop (i + 1) (reverse sizes)) (drop next kept) (first + next) ≡ all
    goes-alone other new_is =
        goes-kept (
        new_is ∙ sym (append-nil pairs)
        ∙ ap (λ (l : List (ℕ × ℕ)). pairs ++ l) (sym (more-pair (get_or sizes (length sizes - 1 - i) 0) (sum (drop (i + 1) (reverse sizes))) (first + count) other))
        )
