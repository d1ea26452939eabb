-- The numbers of a set are those whose bits are set.
use Rattle.std.proofs.Common.{◌≡◌, ℕ, zero, suc, ◌*◌, ◌/◌, ◌%◌, ◌<◌, ◌≤◌, ◌⊎◌, inl, inr, List, [], ◌∷◌, ◌++◌, length, take, get_or, replicate, Bool, true, false, ◌||◌, ◌&&◌, cond, eqb, eq-eqb, ne_eqb, refl, ap, sym, ◌∙◌, arith}
use Rattle.std.specs.Int.{bit_at}
use Rattle.std.proofs.lemmas.Bool.{cases_eq}
use Rattle.std.proofs.lemmas.List.{get_or_past}
use Rattle.std.proofs.lemmas.Nat.Bits.{bit_at-zero}
use Rattle.pm_auto.specs.States.{has}
use Rattle.pm_auto.specs.Members.{is_in, members_below, members}
use Rattle.pm_auto.proofs.Orders.{le_or_lt}
use Rattle.pm_auto.proofs.SetLaws.{or-false, has-append}

and-false : (b : Bool) → b && false ≡ false
and-false true = refl
and-false false = refl

and-all : (b : Bool) → b && true ≡ b
and-all true = refl
and-all false = refl

only-one : (b : Bool) (n j : ℕ) → has j (cond b (n ∷ []) []) ≡ b && eqb n j
only-one true n j = or-false (eqb n j)
only-one false n j = refl

below-past : (ws : List ℕ) (n j : ℕ) → n ≤ j → has j (members_below ws n) ≡ false
below-past ws zero j h = refl
below-past ws (suc n) j h =
    has-append j (members_below ws n) (cond (is_in ws n) (n ∷ []) [])
    ∙ ap (λ b. b || has j (cond (is_in ws n) (n ∷ []) [])) (below-past ws n j (omega arith))
    ∙ only-one (is_in ws n) n j
    ∙ ap (λ b. is_in ws n && b) (ne_eqb n j (λ e. omega arith))
    ∙ and-false (is_in ws n)

below-in : (ws : List ℕ) (n j : ℕ) → j < n → has j (members_below ws n) ≡ is_in ws j
below-in ws zero j h = absurd (omega arith)
below-in ws (suc n) j h =
    has-append j (members_below ws n) (cond (is_in ws n) (n ∷ []) [])
    ∙ ap (λ b. has j (members_below ws n) || b) (only-one (is_in ws n) n j)
    ∙ at (cases_eq j n) (below-in ws n j)
  where
    at : (j ≡ n) ⊎ (j ≡ n → ⊥) → (j < n → has j (members_below ws n) ≡ is_in ws j) → has j (members_below ws n) || (is_in ws n && eqb n j) ≡ is_in ws j
    at (inl e) f =
        ap (λ b. b || (is_in ws n && eqb n j)) (below-past ws n j (omega arith))
        ∙ ap (λ b. is_in ws n && b) (eq-eqb n j (sym e))
        ∙ and-all (is_in ws n)
        ∙ ap (is_in ws) (sym e)
    at (inr o) f =
        ap (λ b. b || (is_in ws n && eqb n j)) (f (omega arith))
        ∙ ap (λ b. is_in ws j || (is_in ws n && b)) (ne_eqb n j (λ e. o (sym e)))
        ∙ ap (λ b. is_in ws j || b) (and-false (is_in ws n))
        ∙ or-false (is_in ws j)

-- no number is in the set that its words don't reach
pub in-past : (ws : List ℕ) (j : ℕ) → 64 * length ws ≤ j → is_in ws j ≡ false
in-past ws j h = ap (λ w. eqb (bit_at w (j % 64)) 1) (get_or_past ws (j / 64) 0 (omega arith)) ∙ ap (λ b. eqb b 1) (bit_at-zero (j % 64))

pub has-members : (ws : List ℕ) (j : ℕ) → has j (members ws) ≡ is_in ws j
has-members ws j = at (le_or_lt (64 * length ws) j)
  where
    at : (64 * length ws ≤ j) ⊎ (j < 64 * length ws) → has j (members ws) ≡ is_in ws j
    at (inl h) = below-past ws (64 * length ws) j h ∙ sym (in-past ws j h)
    at (inr h) = below-in ws (64 * length ws) j h

take-all : (ws : List ℕ) (n : ℕ) → length ws ≤ n → take n ws ≡ ws
take-all [] zero h = refl
take-all [] (suc n) h = refl
take-all (w ∷ ws) zero h = absurd (omega arith)
take-all (w ∷ ws) (suc n) h = ap (λ z. w ∷ z) (take-all ws n (omega arith))

-- a set joined with one that its words reach
pub in-joined : (a b c w : List ℕ) (j : ℕ) → (j < 64 * length w → is_in c j ≡ is_in w j || is_in b j) → length c ≡ length w → length b ≤ length w → is_in w j ≡ is_in a j → is_in c j ≡ is_in a j || is_in b j
in-joined a b c w j f n m e = at (le_or_lt (64 * length w) j)
  where
    at : (64 * length w ≤ j) ⊎ (j < 64 * length w) → is_in c j ≡ is_in a j || is_in b j
    at (inl h) =
        in-past c j (omega (arith, n, h))
        ∙ sym (ap (λ z. z || is_in b j) (sym e ∙ in-past w j h) ∙ in-past b j (omega (arith, m, h)))
    at (inr h) = f h ∙ ap (λ z. z || is_in b j) e
