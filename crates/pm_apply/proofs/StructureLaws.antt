-- Tokens are closes and then opens exactly where none of them meets another, by counting.
use Rattle.std.specs.Prelude.{◌≡◌, ℕ, ◌+◌, ◌≤◌, ◌==◌, Bool, true, false, List, [], ◌∷◌, length}
use Rattle.std.proofs.Common.{suc, refl, ap, sym, ◌∙◌, arith}
use Rattle.std.proofs.lemmas.Bool.{eqb-true, eq-eqb, ne_eqb}
use Rattle.pm_tokens.specs.Tokens.{Token, Open, Close, Leaf, CodeUnit}
use Rattle.pm_tokens.specs.Scan.{unclosed, unmet, are_opens, closes_then_opens}

-- no more tokens are left open, or meet no open, than there are
sides-le : (s : List ℕ) (ts : List Token) → unmet (length s) ts + length (unclosed s ts) ≤ length s + length ts
sides-le s [] = omega arith
sides-le s (Open k a m ∷ ts) = omega (arith, sides-le (k ∷ s) ts)
sides-le [] (Close ∷ ts) = omega (arith, sides-le [] ts)
sides-le (k ∷ s) (Close ∷ ts) = omega (arith, sides-le s ts)
sides-le s (Leaf k a m ∷ ts) = omega (arith, sides-le s ts)
sides-le s (CodeUnit u m ∷ ts) = omega (arith, sides-le s ts)

-- equal numbers that are one greater on both sides are equal together
eqb-suc : (a b c d : ℕ) → c ≡ suc a → d ≡ suc b → (c == d) ≡ (a == b)
eqb-suc a b c d e f = by (a == b) refl
  where
    by : (t : Bool) → (a == b) ≡ t → (c == d) ≡ (a == b)
    by true p = eq-eqb c d (omega (arith, e, f, eqb-true a b p)) ∙ sym p
    by false p = ne_eqb c d (λ h. let same : a ≡ b = omega (arith, e, f, h) in let yes : (a == b) ≡ true = eq-eqb a b same in absurd (cc)) ∙ sym p

-- after an open node, tokens that all stay open are opens alone
opens-by-count : (k : ℕ) (s : List ℕ) (ts : List Token) → are_opens ts ≡ (unmet (suc (length s)) ts + length (unclosed (k ∷ s) ts) == suc (length s) + length ts)
opens-by-count k s [] = sym (eq-eqb _ _ (omega arith))
opens-by-count k s (Open j a m ∷ ts) =
    opens-by-count j (k ∷ s) ts ∙ ap (λ n. unmet (suc (suc (length s))) ts + length (unclosed (j ∷ k ∷ s) ts) == n) (let e : suc (suc (length s)) + length ts ≡ suc (length s) + suc (length ts) = omega arith in e)
opens-by-count k s (Close ∷ ts) = sym (ne_eqb _ _ (λ e. absurd (omega (arith, e, sides-le s ts))))
opens-by-count k s (Leaf j a m ∷ ts) = sym (ne_eqb _ _ (λ e. absurd (omega (arith, e, sides-le (k ∷ s) ts))))
opens-by-count k s (CodeUnit u m ∷ ts) = sym (ne_eqb _ _ (λ e. absurd (omega (arith, e, sides-le (k ∷ s) ts))))

pub structure-by-count : (ts : List Token) → closes_then_opens ts ≡ (unmet 0 ts + length (unclosed [] ts) == length ts)
structure-by-count [] = refl
structure-by-count (Open k a m ∷ ts) = opens-by-count k [] ts ∙ ap (λ n. unmet 1 ts + length (unclosed (k ∷ []) ts) == n) (let e : suc 0 + length ts ≡ suc (length ts) = omega arith in e)
structure-by-count (Close ∷ ts) = structure-by-count ts ∙ sym (eqb-suc (unmet 0 ts + length (unclosed [] ts)) (length ts) (suc (unmet 0 ts) + length (unclosed [] ts)) (suc (length ts)) (omega arith) refl)
structure-by-count (Leaf k a m ∷ ts) = sym (ne_eqb _ _ (λ e. absurd (omega (arith, e, sides-le [] ts))))
structure-by-count (CodeUnit u m ∷ ts) = sym (ne_eqb _ _ (λ e. absurd (omega (arith, e, sides-le [] ts))))
