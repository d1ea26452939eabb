-- The children of a content: one part for each, in order.
use Rattle.std.specs.Prelude.{◌≡◌, ℕ, false, cond, None, List, [], ◌∷◌, ◌++◌, length}
use Rattle.std.proofs.Common.{suc, refl, ap, sym, ◌∙◌, append_assoc}
use Rattle.pm_tokens.specs.Tokens.{Attrs, Marks, Token, Open, Close, Leaf, CodeUnit}
use Rattle.pm_tokens.specs.Scan.{Balanced, none, leaf, unit, node}
use Rattle.pm_tokens.specs.Kids.{text_tokens, EndsText, Forest, empty, atom, block, run, kids, next_goes_on, with_first, parts, children}
use Rattle.pm_tokens.proofs.MarkLaws.{marks-itself, marks-differ}
use Rattle.pm_tokens.proofs.ForestLaws.{forest-balanced, balanced-forest}

-- these tokens at the front of the first part
abbrev pub with_front : List Token → List (List Token) → List (List Token)
with_front [] ps = ps
with_front (x ∷ xs) ps = with_first x (with_front xs ps)

front-append : (xs ys : List Token) (ps : List (List Token)) → with_front (xs ++ ys) ps ≡ with_front xs (with_front ys ps)
front-append [] ys ps = refl
front-append (x ∷ xs) ys ps = ap (with_first x) (front-append xs ys ps)

front-part : (xs p : List Token) (ps : List (List Token)) → with_front xs (p ∷ ps) ≡ (xs ++ p) ∷ ps
front-part [] p ps = refl
front-part (x ∷ xs) p ps = ap (with_first x) (front-part xs p ps)

-- below the children whole nodes belong to the first part
parts-below : (d : ℕ) {xs : List Token} → Balanced xs → (ys : List Token) → parts (suc d) (xs ++ ys) ≡ with_front xs (parts (suc d) ys)
parts-below d none ys = refl
parts-below d (leaf k a m b) ys = ap (with_first (Leaf k a m)) (parts-below d b ys)
parts-below d (unit u m b) ys = ap (with_first (CodeUnit u m)) (parts-below d b ys)
parts-below d (node k a m {inner = inner} {ts = ts} i b) ys =
    ap (with_first (Open k a m))
    (ap (parts (suc (suc d))) (append_assoc inner (Close ∷ ts) ys)
    ∙ (parts-below (suc d) i (Close ∷ (ts ++ ys)) ∙ (ap (λ z. with_front inner (with_first Close z)) (parts-below d b ys) ∙ sym (front-append inner (Close ∷ ts) (parts (suc d) ys)))))

-- a node, and then the children after it
pub children-node : (k : ℕ) (a : Attrs) (m : Marks) {inner : List Token} → Balanced inner → (ts : List Token) → children (Open k a m ∷ (inner ++ (Close ∷ ts))) ≡ (Open k a m ∷ (inner ++ (Close ∷ []))) ∷ children ts
children-node k a m {inner = inner} i ts = ap (with_first (Open k a m)) (parts-below 0 i (Close ∷ ts) ∙ front-part inner (Close ∷ []) (children ts))

ends-next : (m : Marks) (ts : List Token) → EndsText m ts → next_goes_on m ts ≡ false
ends-next m [] h = refl
ends-next m (Open k a n ∷ ts) h = refl
ends-next m (Close ∷ ts) h = refl
ends-next m (Leaf k a n ∷ ts) h = refl
ends-next m (CodeUnit u n ∷ ts) h = marks-differ m n h

-- a text, and then the children after it
pub children-text : (m : Marks) (u : ℕ) (us : List ℕ) (ts : List Token) → EndsText m ts → children (text_tokens m (u ∷ us) ++ ts) ≡ text_tokens m (u ∷ us) ∷ children ts
children-text m u [] ts h = ap (λ z. cond z (with_first (CodeUnit u m) (children ts)) ((CodeUnit u m ∷ []) ∷ children ts)) (ends-next m ts h)
children-text m u (v ∷ us) ts h =
    ap (λ z. cond z (with_first (CodeUnit u m) (children (text_tokens m (v ∷ us) ++ ts))) ((CodeUnit u m ∷ []) ∷ children (text_tokens m (v ∷ us) ++ ts))) (marks-itself m)
    ∙ ap (with_first (CodeUnit u m)) (children-text m v us ts h)

-- the tokens of the parts in order
abbrev pub joined : List (List Token) → List Token
joined [] = []
joined (p ∷ ps) = p ++ joined ps

module _ (text : ℕ) where
  forest-children : {ts : List Token} {ks : List ℕ} → Forest text ts ks → (length (children ts) ≡ length ks) × (joined (children ts) ≡ ts)
  forest-children empty = (refl, refl)
  forest-children (atom k a m f) = let i = forest-children f in (ap suc i.0, ap (λ z. Leaf k a m ∷ z) i.1)
  forest-children (block k a m {inner = inner} {ts = ts} g f) =
      let i = forest-children f in
      let e = children-node k a m (forest-balanced text g) ts in
      (ap length e ∙ ap suc i.0, ap joined e ∙ (ap (λ z. Open k a m ∷ z) (append_assoc inner (Close ∷ []) (joined (children ts)) ∙ ap (λ z. inner ++ (Close ∷ z)) i.1)))
  forest-children (run m u us {ts = ts} f e) =
      let i = forest-children f in
      let c = children-text m u us ts e in
      (ap length c ∙ ap suc i.0, ap joined c ∙ ap (λ z. text_tokens m (u ∷ us) ++ z) i.1)

  -- there are as many children as types of children
  pub children-length : {ts : List Token} → Balanced ts → length (children ts) ≡ length (kids text 0 None ts)
  children-length b = (forest-children (balanced-forest text b)).0
