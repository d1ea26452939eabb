-- A cut inside of one node is the cut of its content; and what a cut is that no node holds whole.
use Rattle.std.specs.Prelude.{◌≡◌, ℕ, ◌+◌, ◌≤◌, List, [], ◌∷◌, ◌++◌, length, take, drop, reverse, replicate}
use Rattle.std.proofs.lemmas.List.{take_all, nil_from_length, take-append-le}
use Rattle.std.proofs.Common.{suc, refl, ap, sym, ◌∙◌, arith, append_assoc, length-append}
use Rattle.pm_tokens.specs.Tokens.{Attrs, Marks, Token, Open, Close, Leaf, CodeUnit}
use Rattle.pm_tokens.specs.Scan.{unclosed, unmet, part, depth_at, rest_of, around}
use Rattle.pm_tokens.specs.Slices.{Slice, closed_over, cut}
use Rattle.pm_tokens.proofs.ScanLaws.{unclosed-append, unmet-append, unmet-from, level, Whole}
use Rattle.pm_tokens.proofs.PartLaws.{Split, split-at, split-front, split-fronts, split-part, depth-from, depth-to}

-- ---- the opens around a place

pub around-append : (s xs ys : List Token) → around s (xs ++ ys) ≡ around (around s xs) ys
around-append s [] ys = refl
around-append s (Open k a m ∷ xs) ys = around-append (Open k a m ∷ s) xs ys
around-append s (Close ∷ xs) ys = around-append (rest_of s) xs ys
around-append s (Leaf k a m ∷ xs) ys = around-append s xs ys
around-append s (CodeUnit u m ∷ xs) ys = around-append s xs ys

-- what lies further out is not read
pub around-under : (t s xs : List Token) → unmet (length t) xs ≡ 0 → around (t ++ s) xs ≡ around t xs ++ s
around-under t s [] h = refl
around-under t s (Open k a m ∷ xs) h = around-under (Open k a m ∷ t) s xs h
around-under [] s (Close ∷ xs) h = absurd (omega (arith, h))
around-under (x ∷ t) s (Close ∷ xs) h = around-under t s xs h
around-under t s (Leaf k a m ∷ xs) h = around-under t s xs h
around-under t s (CodeUnit u m ∷ xs) h = around-under t s xs h

-- there are as many as nodes are open
pub around-length : (o : List Token) (s : List ℕ) (xs : List Token) → length o ≡ length s → length (around o xs) ≡ length (unclosed s xs)
around-length o s [] h = h
around-length o s (Open k a m ∷ xs) h = around-length (Open k a m ∷ o) (k ∷ s) xs (ap suc h)
around-length [] [] (Close ∷ xs) h = around-length [] [] xs refl
around-length [] (k ∷ s) (Close ∷ xs) h = absurd (omega (arith, h))
around-length (x ∷ o) [] (Close ∷ xs) h = absurd (omega (arith, h))
around-length (x ∷ o) (k ∷ s) (Close ∷ xs) h = around-length o s xs (omega (arith, h))
around-length o s (Leaf k a m ∷ xs) h = around-length o s xs h
around-length o s (CodeUnit u m ∷ xs) h = around-length o s xs h

-- no close of the front, and of the part after it, goes further out than the list
pub front-met : (a x b : List Token) → unmet 0 (a ++ (x ++ b)) ≡ 0 → (unmet 0 a ≡ 0) × (unmet (length (unclosed [] a)) x ≡ 0)
front-met a x b h =
    let m₀ = unmet-append [] a (x ++ b) in
    let m₁ = unmet-append (unclosed [] a) x b in
    (omega (arith, h, m₀), omega (arith, h, m₀, m₁))

-- ---- inside of one node

module _ (before : List Token) (k : ℕ) (at : Attrs) (m : Marks) (inner rest : List Token) (w : Whole inner) (f t : ℕ) (h : f ≤ t) (i : t ≤ length inner) where
  abbrev all : List Token
  all = before ++ (Open k at m ∷ (inner ++ (Close ∷ rest)))

  abbrev from : ℕ
  from = length before + 1 + f

  abbrev to : ℕ
  to = length before + 1 + t

  abbrev a : List Token
  a = take f inner

  abbrev x : List Token
  x = part f t inner

  abbrev b : List Token
  b = drop t inner

  sp : Split inner a x b f t
  sp = split-at inner f t h i

  whole-split : Split all (before ++ (Open k at m ∷ a)) x (b ++ (Close ∷ rest)) from to
  whole-split = record {
    is =
        ap (λ z. before ++ (Open k at m ∷ z)) (ap (λ z. z ++ (Close ∷ rest)) sp.is ∙ (append_assoc a (x ++ b) (Close ∷ rest) ∙ ap (λ z. a ++ z) (append_assoc x b (Close ∷ rest))))
        ∙ sym (append_assoc before (Open k at m ∷ a) (x ++ (b ++ (Close ∷ rest))));
    at_from = omega (arith, length-append before (Open k at m ∷ a), sp.at_from);
    at_to = omega (arith, sp.at_to);
  }

  met : (unmet 0 a ≡ 0) × (unmet (length (unclosed [] a)) x ≡ 0)
  met = front-met a x b (ap (unmet 0) (sym sp.is) ∙ w.met)

  within : unmet 0 x ≤ length (around [] a)
  within = omega (arith, around-length [] [] a refl, met.1, unmet-from (length (unclosed [] a)) x)

  opened : take (unmet 0 x) (around [] (before ++ (Open k at m ∷ a))) ≡ take (unmet 0 x) (around [] a)
  opened =
      ap (take (unmet 0 x)) (around-append [] before (Open k at m ∷ a) ∙ around-under [] (Open k at m ∷ around [] before) a met.0)
      ∙ take-append-le (unmet 0 x) (around [] a) (Open k at m ∷ around [] before) within

  -- a cut inside of one node is the cut of its content
  pub cut-inside : cut all from to ≡ cut inner f t
  cut-inside =
      ap (λ z. closed_over z (part from to all)) (split-front whole-split)
      ∙ (ap (closed_over (before ++ (Open k at m ∷ a))) (split-part whole-split) ∙ same (take (unmet 0 x) (around [] (before ++ (Open k at m ∷ a)))) (take (unmet 0 x) (around [] a)) opened)
    where
      same : (o q : List Token) → o ≡ q
          → (let s : Slice = record { content = reverse o ++ (x ++ replicate (length (unclosed [] x)) Close); open_start = unmet 0 x; open_end = length (unclosed [] x) } in s)
          ≡ (let s : Slice = record { content = reverse q ++ (x ++ replicate (length (unclosed [] x)) Close); open_start = unmet 0 x; open_end = length (unclosed [] x) } in s)
      same o q e = rw e refl

-- ---- over a place that no node is around

module _ (ts : List Token) (from p to : ℕ) (w : Whole ts) (h : from ≤ p) (i : p ≤ to) (j : to ≤ length ts) (flat : depth_at ts p ≡ 0) where
  abbrev front : List Token
  front = take from ts

  abbrev left : List Token
  left = part from p ts

  abbrev right : List Token
  right = part p to ts

  abbrev piece : List Token
  piece = part from to ts

  first : Split ts front left (drop p ts) from p
  first = split-at ts from p h (omega (arith, i, j))

  second : Split ts (take p ts) right (drop to ts) p to
  second = split-at ts p to i j

  both : Split ts front (left ++ right) (drop to ts) from to
  both = record {
    is = second.is ∙ (ap (λ z. z ++ (right ++ drop to ts)) (split-fronts first) ∙ (append_assoc front left (right ++ drop to ts) ∙ ap (λ z. front ++ z) (sym (append_assoc left right (drop to ts)))));
    at_from = first.at_from;
    at_to = omega (arith, length-append left right, first.at_to, second.at_to);
  }

  is-both : piece ≡ left ++ right
  is-both = split-part both

  met-left : (unmet 0 front ≡ 0) × (unmet (length (unclosed [] front)) left ≡ 0)
  met-left = front-met front left (drop p ts) (ap (unmet 0) (sym first.is) ∙ w.met)

  met-right : (unmet 0 (take p ts) ≡ 0) × (unmet (length (unclosed [] (take p ts))) right ≡ 0)
  met-right = front-met (take p ts) right (drop to ts) (ap (unmet 0) (sym second.is) ∙ w.met)

  none-at : unclosed [] (take p ts) ≡ []
  none-at = nil_from_length (unclosed [] (take p ts)) flat

  right-met : unmet 0 right ≡ 0
  right-met = ap (λ z. unmet (length z) right) (sym none-at) ∙ met-right.1

  left-level : (length (unclosed [] left) ≡ 0) × (unmet 0 left ≡ length (unclosed [] front))
  left-level =
      let zero-there : length (unclosed (unclosed [] front) left) ≡ 0 = ap length (sym (unclosed-append [] front left)) ∙ (ap (λ z. length (unclosed [] z)) (sym (split-fronts first)) ∙ flat) in
      let d = unclosed [] front in
      let l₀ = level [] left in
      let l₁ = level d left in
      let u = unmet-from (length d) left in
      (omega (arith, zero-there, l₀, l₁, u, met-left.1), omega (arith, zero-there, l₀, l₁, u, met-left.1))

  -- all that is open at its start is closed in it
  pub sides-start : unmet 0 piece ≡ depth_at ts from
  sides-start =
      ap (unmet 0) is-both ∙ (unmet-append [] left right
      ∙ (ap (λ n. unmet 0 left + unmet n right) left-level.0 ∙ omega (arith, left-level.1, right-met, depth-from both)))

  -- and all that is open at its end was opened in it
  pub sides-end : length (unclosed [] piece) ≡ depth_at ts to
  sides-end =
      ap (λ z. length (unclosed [] z)) is-both ∙ (ap length (unclosed-append [] left right)
      ∙ (ap (λ z. length (unclosed z right)) (nil_from_length (unclosed [] left) left-level.0)
      ∙ (ap (λ z. length (unclosed z right)) (sym none-at) ∙ sym (depth-to second))))

  -- such a cut has all nodes around its start open, the tokens, and a close for each node around its end
  pub cut-across : cut ts from to ≡ (let s : Slice = record { content = reverse (around [] front) ++ (piece ++ replicate (depth_at ts to) Close); open_start = depth_at ts from; open_end = depth_at ts to } in s)
  cut-across =
      same (unmet 0 piece) (depth_at ts from) (length (unclosed [] piece)) (depth_at ts to) sides-start sides-end
      ∙ with (take (depth_at ts from) (around [] front)) (around [] front) (take_all (depth_at ts from) (around [] front) (omega (arith, around-length [] [] front refl)))
    where
      same : (n n' e e' : ℕ) → n ≡ n' → e ≡ e'
          → (let s : Slice = record { content = reverse (take n (around [] front)) ++ (piece ++ replicate e Close); open_start = n; open_end = e } in s)
          ≡ (let s : Slice = record { content = reverse (take n' (around [] front)) ++ (piece ++ replicate e' Close); open_start = n'; open_end = e' } in s)
      same n n' e e' x y = rw (x, y) refl

      with : (o q : List Token) → o ≡ q
          → (let s : Slice = record { content = reverse o ++ (piece ++ replicate (depth_at ts to) Close); open_start = depth_at ts from; open_end = depth_at ts to } in s)
          ≡ (let s : Slice = record { content = reverse q ++ (piece ++ replicate (depth_at ts to) Close); open_start = depth_at ts from; open_end = depth_at ts to } in s)
      with o q x = rw x refl
