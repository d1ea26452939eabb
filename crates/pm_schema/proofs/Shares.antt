-- Two lists that have a type in common.
use Rattle.std.proofs.Common.{◌≡◌, ◌↔◌, ◌⊎◌, ℕ, Bool, true, false, ◌||◌, List, [], ◌∷◌, refl, ap, ◌∙◌, sym, eqb, inl, inr, eqb-true, eq-eqb, arith}
use Rattle.std.specs.Prelude.{◌==◌}
use Rattle.std.specs.List.{list_any}
use Rattle.std.proofs.lemmas.Bool.Decides.{nat_tests}
use Rattle.pm_auto.specs.States.{has}
use Rattle.pm_tokens.specs.Schemas.{share}

or-cases : (a b : Bool) → a || b ≡ true → (a ≡ true) ⊎ (b ≡ true)
or-cases true b h = inl refl
or-cases false b h = inr h

or-left : (a b : Bool) → a ≡ true → a || b ≡ true
or-left true b h = refl
or-left false b h = absurd (cc)

or-right : (a b : Bool) → b ≡ true → a || b ≡ true
or-right true b h = refl
or-right false b h = h

stands-step : (j k : ℕ) (js : List ℕ) → (list_any (λ i. k == i) js ≡ true → has k js ≡ true) → (k == j ≡ true) ⊎ (list_any (λ i. k == i) js ≡ true) → eqb j k || has k js ≡ true
stands-step j k js go (inl e) = or-left (eqb j k) (has k js) (eq-eqb j k (sym (eqb-true k j e)))
stands-step j k js go (inr e) = or-right (eqb j k) (has k js) (go e)

stands-has : (k : ℕ) (js : List ℕ) → list_any (λ j. k == j) js ≡ true → has k js ≡ true
stands-has k [] h = h
stands-has k (j ∷ js) h = stands-step j k js (λ e. stands-has k js e) (or-cases (k == j) (list_any (λ i. k == i) js) h)

has-step : (j k : ℕ) (js : List ℕ) → (has k js ≡ true → list_any (λ i. k == i) js ≡ true) → (eqb j k ≡ true) ⊎ (has k js ≡ true) → (k == j) || list_any (λ i. k == i) js ≡ true
has-step j k js go (inl e) = or-left (k == j) (list_any (λ i. k == i) js) (eq-eqb k j (sym (eqb-true j k e)))
has-step j k js go (inr e) = or-right (k == j) (list_any (λ i. k == i) js) (go e)

has-stands : (k : ℕ) (js : List ℕ) → has k js ≡ true → list_any (λ j. k == j) js ≡ true
has-stands k [] h = h
has-stands k (j ∷ js) h = has-step j k js (λ e. has-stands k js e) (or-cases (eqb j k) (has k js) h)

-- some type is in both lists
abbrev pub Both : List ℕ → List ℕ → Type 0
Both ks js = (k : ℕ) × (has k ks ≡ true) × (has k js ≡ true)

share-step : (k : ℕ) (ks js : List ℕ) → (share ks js ≡ true → Both ks js) → (list_any (λ j. k == j) js ≡ true) ⊎ (share ks js ≡ true) → Both (k ∷ ks) js
share-step k ks js go (inl e) = (k, or-left (eqb k k) (has k ks) (eq-eqb k k refl), stands-has k js e)
share-step k ks js go (inr e) = let b = go e in (b.0, or-right (eqb k b.0) (has b.0 ks) b.1, b.2)

share-both : (ks js : List ℕ) → share ks js ≡ true → Both ks js
share-both [] js h = absurd (cc)
share-both (k ∷ ks) js h = share-step k ks js (λ e. share-both ks js e) (or-cases (list_any (λ j. k == j) js) (share ks js) h)

both-step : (i k : ℕ) (ks js : List ℕ) → has k js ≡ true → (has k ks ≡ true → share ks js ≡ true) → (eqb i k ≡ true) ⊎ (has k ks ≡ true) → list_any (λ j. i == j) js || share ks js ≡ true
both-step i k ks js g go (inl e) = or-left (list_any (λ j. i == j) js) (share ks js) (has-stands i js (ap (λ (n : ℕ). has n js) (eqb-true i k e) ∙ g))
both-step i k ks js g go (inr e) = or-right (list_any (λ j. i == j) js) (share ks js) (go e)

both-share : (k : ℕ) (ks js : List ℕ) → has k ks ≡ true → has k js ≡ true → share ks js ≡ true
both-share k [] js h g = absurd (cc)
both-share k (i ∷ ks) js h g = both-step i k ks js g (λ e. both-share k ks js e g) (or-cases (eqb i k) (has k ks) h)

-- an answer that says whether some type is in both
pub share-is : (b : Bool) (ks js : List ℕ) → (b ≡ true) ↔ Both ks js → b ≡ share ks js
share-is b ks js h = at b (share ks js) refl refl
  where
    at : (x y : Bool) → b ≡ x → share ks js ≡ y → b ≡ share ks js
    at true true e f = e ∙ sym f
    at false false e f = e ∙ sym f
    at true false e f = let k = h.0 e in absurd (let z : true ≡ false = sym (both-share k.0 ks js k.1 k.2) ∙ f in cc)
    at false true e f = absurd (let z : true ≡ false = sym (h.1 (share-both ks js f)) ∙ e in cc)

pub not-same : (a b : ℕ) → (a ≡ b → ⊥) → (a == b) ≡ false
not-same a b n = grind (arith, nat_tests)
