-- Compatible types: each with itself, and both ways. The greatest size.
use Rattle.std.specs.Prelude.{◌≡◌, ℕ, ◌≤◌, ◌==◌, Bool, if◌then◌else◌, true, false, ◌||◌, List, [], ◌∷◌}
use Rattle.std.specs.List.{list_any}
use Rattle.std.proofs.lemmas.Bool.{eqb-true, eqb-false, eq-eqb}
use Rattle.std.proofs.Common.{refl, ap, sym, ◌∙◌, arith}
use Rattle.pm_tokens.specs.Schemas.{Schema, share, compatible, max_size}

eqb-both : (a b : ℕ) → (a == b) ≡ (b == a)
eqb-both a b = at (a == b) (b == a) refl refl
  where
    at : (p q : Bool) → (a == b) ≡ p → (b == a) ≡ q → p ≡ q
    at true true e f = refl
    at false false e f = refl
    at true false e f = absurd (eqb-false b a f (sym (eqb-true a b e)))
    at false true e f = absurd (eqb-false a b e (sym (eqb-true b a f)))

swap-or : (p a b c : Bool) → ((p || a) || (b || c)) ≡ ((p || b) || (a || c))
swap-or true a b c = refl
swap-or false true true c = refl
swap-or false true false c = refl
swap-or false false true c = refl
swap-or false false false c = refl

-- one more type on the right
share-more : (ks : List ℕ) (j : ℕ) (js : List ℕ) → share ks (j ∷ js) ≡ (list_any (λ k. j == k) ks || share ks js)
share-more [] j js = refl
share-more (k ∷ ks) j js =
    ap (λ z. ((k == j) || list_any (λ i. k == i) js) || z) (share-more ks j js)
    ∙ (swap-or (k == j) (list_any (λ i. k == i) js) (list_any (λ i. j == i) ks) (share ks js)
    ∙ ap (λ z. (z || list_any (λ i. j == i) ks) || (list_any (λ i. k == i) js || share ks js)) (eqb-both k j))

none-shared : (js : List ℕ) → share js [] ≡ false
none-shared [] = refl
none-shared (j ∷ js) = none-shared js

pub share-both : (ks js : List ℕ) → share ks js ≡ share js ks
share-both [] js = sym (none-shared js)
share-both (k ∷ ks) js = ap (λ z. list_any (λ j. k == j) js || z) (share-both ks js) ∙ sym (share-more js k ks)

pub compatible-itself : (s : Schema) (k : ℕ) → compatible s k k ≡ true
compatible-itself s k = rw (eq-eqb k k refl) refl

pub compatible-both : (s : Schema) (k l : ℕ) → compatible s k l ≡ compatible s l k
compatible-both s k l = rw (eqb-both k l, share-both (s.starts k) (s.starts l)) refl

-- no schema allows more than a million tokens
pub max-size-small : (s : Schema) → max_size s ≤ 1000000
max-size-small s = at (s.version == 1)
  where
    at : (b : Bool) → (if b then 500000 else 1000000) ≤ 1000000
    at true = omega arith
    at false = omega arith
