-- The types of the children that begin before a position.
use Rattle.std.specs.Prelude.{◌≡◌, ℕ, ◌+◌, ◌-◌, ◌<◌, Option, None, List, [], ◌∷◌, ◌++◌, length, take}
use Rattle.std.proofs.Common.{zero, suc, refl, ap, ◌∙◌, arith, append_assoc, length-append}
use Rattle.pm_tokens.specs.Tokens.{Attrs, Marks, Token, Open, Close, Leaf, CodeUnit}
use Rattle.pm_tokens.specs.Scan.{Balanced, none, leaf, unit, node}
use Rattle.pm_tokens.specs.Kids.{text_tokens, EndsText, kids}
use Rattle.pm_tokens.proofs.ListLaws.{take_over}
use Rattle.pm_tokens.proofs.KidLaws.{kids-text}

-- the first units of a text are a text
pub take-text : (m : Marks) (us : List ℕ) (q : ℕ) → take q (text_tokens m us) ≡ text_tokens m (take q us)
take-text m us zero = refl
take-text m [] (suc q) = refl
take-text m (u ∷ us) (suc q) = ap (λ z. CodeUnit u m ∷ z) (take-text m us q)

-- what ends a text does so as far as it is read
pub ends-take : (m : Marks) (ts : List Token) (q : ℕ) → EndsText m ts → EndsText m (take q ts)
ends-take m ts zero h = tt
ends-take m [] (suc q) h = tt
ends-take m (Open k a n ∷ ts) (suc q) h = tt
ends-take m (Close ∷ ts) (suc q) h = tt
ends-take m (Leaf k a n ∷ ts) (suc q) h = tt
ends-take m (CodeUnit u n ∷ ts) (suc q) h = h

module _ (text : ℕ) where
  -- below the children nothing is read of whole nodes, up to the close that ends them
  pub below-take : (d : ℕ) (r : Option Marks) {inner : List Token} → Balanced inner → (rest : List Token) (q p : ℕ) → p ≡ q - (length inner + 1) → kids text (suc d) r (take q (inner ++ (Close ∷ rest))) ≡ kids text d None (take p rest)
  below-take d r none rest zero p e = ap (λ z. kids text d None (take z rest)) (let f : 0 ≡ p = omega (arith, e) in f)
  below-take d r none rest (suc q) p e = ap (λ z. kids text d None (take z rest)) (let f : q ≡ p = omega (arith, e) in f)
  below-take d r (leaf k a m b) rest zero p e = ap (λ z. kids text d None (take z rest)) (let f : 0 ≡ p = omega (arith, e) in f)
  below-take d r (leaf k a m b) rest (suc q) p e = below-take d None b rest q p (omega (arith, e))
  below-take d r (unit u m b) rest zero p e = ap (λ z. kids text d None (take z rest)) (let f : 0 ≡ p = omega (arith, e) in f)
  below-take d r (unit u m b) rest (suc q) p e = below-take d None b rest q p (omega (arith, e))
  below-take d r (node k a m i b) rest zero p e = ap (λ z. kids text d None (take z rest)) (let f : 0 ≡ p = omega (arith, e) in f)
  below-take d r (node k a m {inner = inner} {ts = ts} i b) rest (suc q) p e =
      let n = q - (length inner + 1) in
      let size : length (inner ++ (Close ∷ ts)) ≡ length inner + (length ts + 1) = length-append inner (Close ∷ ts) ∙ (let f : length inner + suc (length ts) ≡ length inner + (length ts + 1) = omega arith in f) in
      ap (λ z. kids text (suc (suc d)) None (take q z)) (append_assoc inner (Close ∷ ts) (Close ∷ rest))
      ∙ (below-take (suc d) None i (ts ++ (Close ∷ rest)) q n refl ∙ below-take d None b rest n p (omega (arith, e, size)))

  -- a node that begins before the position, and then the rest
  pub take-leaf : (k : ℕ) (a : Attrs) (m : Marks) (ts : List Token) (q : ℕ) → 0 < q → kids text 0 None (take q (Leaf k a m ∷ ts)) ≡ k ∷ kids text 0 None (take (q - 1) ts)
  take-leaf k a m ts zero h = absurd (omega (arith, h))
  take-leaf k a m ts (suc q) h = ap (λ z. k ∷ kids text 0 None (take z ts)) (let e : q ≡ suc q - 1 = omega arith in e)

  pub take-node : (k : ℕ) (a : Attrs) (m : Marks) {inner : List Token} → Balanced inner → (ts : List Token) (q : ℕ) → 0 < q → kids text 0 None (take q ((Open k a m ∷ (inner ++ (Close ∷ []))) ++ ts)) ≡ k ∷ kids text 0 None (take (q - (length inner + 2)) ts)
  take-node k a m i ts zero h = absurd (omega (arith, h))
  take-node k a m {inner = inner} i ts (suc q) h =
      ap (λ z. k ∷ kids text 1 None (take q z)) (append_assoc inner (Close ∷ []) ts)
      ∙ ap (λ z. k ∷ z) (below-take 0 None i ts q (suc q - (length inner + 2)) (omega arith))

  pub take-run : (m : Marks) (u : ℕ) (us : List ℕ) (ts : List Token) (q : ℕ) → 0 < q → EndsText m ts → kids text 0 None (take q (text_tokens m (u ∷ us) ++ ts)) ≡ text ∷ kids text 0 None (take (q - length (text_tokens m (u ∷ us))) ts)
  take-run m u us ts zero h e = absurd (omega (arith, h))
  take-run m u us ts (suc q) h e =
      let n = suc q - length (text_tokens m (u ∷ us)) in
      ap (kids text 0 None) (take_over (suc q) (text_tokens m (u ∷ us)) ts ∙ ap (λ z. z ++ take n ts) (take-text m (u ∷ us) (suc q)))
      ∙ kids-text text m u (take q us) (take n ts) (ends-take m ts n e)
