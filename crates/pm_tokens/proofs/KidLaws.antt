-- The types of children, read over whole nodes.
use Rattle.std.specs.Prelude.{◌≡◌, ℕ, cond, Option, Some, None, List, [], ◌∷◌, ◌++◌}
use Rattle.std.proofs.Common.{suc, refl, ap, sym, ◌∙◌, append_assoc}
use Rattle.pm_tokens.specs.Tokens.{Attrs, Marks, Token, Open, Close, Leaf, CodeUnit}
use Rattle.pm_tokens.specs.Scan.{Balanced, none, leaf, unit, node}
use Rattle.pm_tokens.specs.Kids.{text_tokens, EndsText, goes_on, kids}
use Rattle.pm_tokens.proofs.MarkLaws.{marks-itself, marks-differ}

pub balanced-text : (m : Marks) (us : List ℕ) → Balanced (text_tokens m us)
balanced-text m [] = none
balanced-text m (u ∷ us) = unit u m (balanced-text m us)

module _ (text : ℕ) where
  -- below the children nothing is read of whole nodes
  pub kids-below : (d : ℕ) (r : Option Marks) {ts : List Token} → Balanced ts → (rest : List Token) → kids text (suc d) r (ts ++ (Close ∷ rest)) ≡ kids text d None rest
  kids-below d r none rest = refl
  kids-below d r (leaf k a m b) rest = kids-below d None b rest
  kids-below d r (unit u m b) rest = kids-below d None b rest
  kids-below d r (node k a m {inner = inner} {ts = ts} i b) rest =
      ap (λ z. kids text (suc (suc d)) None z) (append_assoc inner (Close ∷ ts) (Close ∷ rest))
      ∙ (kids-below (suc d) None i (ts ++ (Close ∷ rest)) ∙ kids-below d None b rest)

  -- the children end at the close that ends them
  pub kids-stop : (r : Option Marks) {ts : List Token} → Balanced ts → (rest : List Token) → kids text 0 r (ts ++ (Close ∷ rest)) ≡ kids text 0 r ts
  kids-stop r none rest = refl
  kids-stop r (leaf k a m b) rest = ap (λ z. k ∷ z) (kids-stop None b rest)
  kids-stop r (unit u m b) rest = ap (λ z. cond (goes_on r m) z (text ∷ z)) (kids-stop (Some m) b rest)
  kids-stop r (node k a m {inner = inner} {ts = ts} i b) rest =
      ap (λ z. k ∷ z)
      (ap (λ z. kids text 1 None z) (append_assoc inner (Close ∷ ts) (Close ∷ rest))
      ∙ (kids-below 0 None i (ts ++ (Close ∷ rest)) ∙ (kids-stop None b rest ∙ sym (kids-below 0 None i ts))))

  -- a node's type, and then those of the rest
  pub kids-node : (r : Option Marks) (k : ℕ) (a : Attrs) (m : Marks) {inner : List Token} → Balanced inner → (ts : List Token) → kids text 0 r (Open k a m ∷ (inner ++ (Close ∷ ts))) ≡ k ∷ kids text 0 None ts
  kids-node r k a m i ts = ap (λ z. k ∷ z) (kids-below 0 None i ts)

  -- more units of a text
  pub kids-run : (m : Marks) (us : List ℕ) (ts : List Token) → kids text 0 (Some m) (text_tokens m us ++ ts) ≡ kids text 0 (Some m) ts
  kids-run m [] ts = refl
  kids-run m (u ∷ us) ts =
      ap (λ z. cond z (kids text 0 (Some m) (text_tokens m us ++ ts)) (text ∷ kids text 0 (Some m) (text_tokens m us ++ ts))) (marks-itself m) ∙ kids-run m us ts

  -- after the end of a text it does not matter that one was there
  pub kids-fresh : (m : Marks) (ts : List Token) → EndsText m ts → kids text 0 (Some m) ts ≡ kids text 0 None ts
  kids-fresh m [] h = refl
  kids-fresh m (Open k a n ∷ ts) h = refl
  kids-fresh m (Close ∷ ts) h = refl
  kids-fresh m (Leaf k a n ∷ ts) h = refl
  kids-fresh m (CodeUnit u n ∷ ts) h = ap (λ z. cond z (kids text 0 (Some n) ts) (text ∷ kids text 0 (Some n) ts)) (marks-differ m n h)

  -- a text's type, and then those of the rest
  pub kids-text : (m : Marks) (u : ℕ) (us : List ℕ) (ts : List Token) → EndsText m ts → kids text 0 None (text_tokens m (u ∷ us) ++ ts) ≡ text ∷ kids text 0 None ts
  kids-text m u us ts h = ap (λ z. text ∷ z) (kids-run m us ts ∙ kids-fresh m ts h)
