-- The types that come first.
use Rattle.std.proofs.Common.{◌≡◌, ℕ, zero, suc, ◌<◌, List, [], ◌∷◌, ◌++◌, length, get_or, Bool, true, false, ◌||◌, ◌&&◌, not, cond, eqb, refl, ap, sym, ◌∙◌, subst, arith}
use Rattle.std.proofs.lemmas.Bool.{eqb-true, eq-eqb}
use Rattle.pm_auto.specs.States.{has, once}
use Rattle.pm_auto.proofs.SetLaws.{has-append}

-- the list has the types that were not seen
pub has-once : (j : ℕ) (ks seen : List ℕ) → has j (once seen ks) ≡ not (has j seen) && has j ks
has-once j [] seen = none (has j seen)
  where
    none : (b : Bool) → false ≡ not b && false
    none true = refl
    none false = refl
has-once j (k ∷ ks) seen = at (has k seen) refl (has-once j ks seen) (has-once j ks (seen ++ k ∷ []))
  where
    met : (a b c : Bool) → (b ≡ true → a ≡ true) → not a && c ≡ not a && (b || c)
    met a false c f = refl
    met true true c f = refl
    met false true c f = absurd (let h : false ≡ true = f refl in cc)

    new : (a b c : Bool) → (b ≡ true → a ≡ false) → b || (not (a || (b || false)) && c) ≡ not a && (b || c)
    new true true c f = absurd (let h : true ≡ false = f refl in cc)
    new true false c f = refl
    new false true c f = refl
    new false false c f = refl

    at : (b : Bool) → has k seen ≡ b → has j (once seen ks) ≡ not (has j seen) && has j ks → has j (once (seen ++ k ∷ []) ks) ≡ not (has j (seen ++ k ∷ [])) && has j ks
        → has j (cond b (once seen ks) (k ∷ once (seen ++ k ∷ []) ks)) ≡ not (has j seen) && (eqb k j || has j ks)
    at true e h1 h2 = h1 ∙ met (has j seen) (eqb k j) (has j ks) (λ h. subst (λ (z : ℕ). has z seen ≡ true) (eqb-true k j h) e)
    at false e h1 h2 = ap (λ z. eqb k j || z) (h2 ∙ ap (λ z. not z && has j ks) (has-append j seen (k ∷ []))) ∙ new (has j seen) (eqb k j) (has j ks) (λ h. subst (λ (z : ℕ). has z seen ≡ false) (eqb-true k j h) e)

-- what stands at a place of a list is in it
pub has-at : (xs : List ℕ) (i : ℕ) → i < length xs → has (get_or xs i 0) xs ≡ true
has-at [] i h = absurd (omega arith)
has-at (x ∷ xs) zero h = ap (λ z. z || has x xs) (eq-eqb x x refl)
has-at (x ∷ xs) (suc i) h = rw (has-at xs i (omega arith)) (or-true (eqb x (get_or xs i 0)))
  where
    or-true : (b : Bool) → b || true ≡ true
    or-true true = refl
    or-true false = refl

-- a type at a place of those that come first is one of the types
pub once-at : (ks : List ℕ) (i : ℕ) → i < length (once [] ks) → has (get_or (once [] ks) i 0) ks ≡ true
once-at ks i h = sym (has-once (get_or (once [] ks) i 0) ks []) ∙ has-at (once [] ks) i h
