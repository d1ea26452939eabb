-- Parts of a list that is split, slices, and cuts.
use Rattle.std.specs.Prelude.{◌≡◌, ℕ, ◌+◌, ◌-◌, ◌≤◌, ◌&&◌, nat_le, List, [], ◌∷◌, ◌++◌, length, take, drop, true, reverse, replicate}
use Rattle.std.proofs.lemmas.Bool.{leb-true, le-leb, and_parts, and_from}
use Rattle.std.proofs.lemmas.List.{nil_from_length, take_at, drop_at, take-append-drop, drop-drop, reverse-append, length-replicate, length-reverse}
use Rattle.std.proofs.Common.{zero, suc, refl, ap, sym, ◌∙◌, subst, arith, append_assoc, length-append, length-take, length-drop}
use Rattle.pm_tokens.specs.Tokens.{Token, Open, Close, Leaf, CodeUnit}
use Rattle.pm_tokens.specs.Scan.{tail_of, unclosed, unmet, is_whole, owned, part, depth_at, rest_of, around, are_opens, are_closes}
use Rattle.pm_tokens.specs.Slices.{Slice, is_slice, content_end, slice_tokens, slice_size, slice_owned, closed_over}
use Rattle.pm_tokens.proofs.ScanLaws.{unmet-append, unmet-from, level, of-whole, unclosed-append, owned-part, owned-take, owned-drop, opens, closes, opens-append, closes-append, opens-all, closes-all, Whole, whole-of, whole-counts, unclosed-whole}

-- a list in three pieces, with the places where they meet
pub record Split {A : Type 0} (xs p q r : List A) (from to : ℕ) : Type 0 where
  pub is : xs ≡ p ++ (q ++ r)
  pub at_from : length p ≡ from
  pub at_to : from + length q ≡ to

module _ {A : Type 0} (xs : List A) (from to : ℕ) where
  pub split-at : from ≤ to → to ≤ length xs → Split xs (take from xs) (part from to xs) (drop to xs) from to
  split-at h k = record {
    is = sym (ap (λ z. take from xs ++ z) (ap (λ z. take (to - from) (drop from xs) ++ z) (sym (drop-drop (to - from) from xs ∙ ap (λ n. drop n xs) (let e : from + (to - from) ≡ to = omega (arith, h) in e))) ∙ take-append-drop (to - from) (drop from xs)) ∙ take-append-drop from xs);
    at_from = omega (arith, h, k, length-take from xs);
    at_to = omega (arith, h, k, length-take (to - from) (drop from xs), length-drop from xs);
  }

module _ {A : Type 0} {xs p q r : List A} {from to : ℕ} (s : Split xs p q r from to) where
  pub split-front : take from xs ≡ p
  split-front = ap (take from) s.is ∙ take_at p (q ++ r) from s.at_from

  pub split-fronts : take to xs ≡ p ++ q
  split-fronts = ap (take to) (s.is ∙ sym (append_assoc p q r)) ∙ take_at (p ++ q) r to (omega (arith, s.at_from, s.at_to, length-append p q))

  pub split-part : part from to xs ≡ q
  split-part = ap (take (to - from)) (ap (drop from) s.is ∙ drop_at p (q ++ r) from s.at_from) ∙ take_at q r (to - from) (omega (arith, s.at_to))

  pub split-back : drop to xs ≡ r
  split-back = ap (drop to) (s.is ∙ sym (append_assoc p q r)) ∙ drop_at (p ++ q) r to (omega (arith, s.at_from, s.at_to, length-append p q))

  pub split-rest : drop from xs ≡ q ++ r
  split-rest = ap (drop from) s.is ∙ drop_at p (q ++ r) from s.at_from

  pub split-length : length xs ≡ to + length r
  split-length = omega (arith, ap length s.is, length-append p (q ++ r), length-append q r, s.at_from, s.at_to)

module _ {xs p q r : List Token} {from to : ℕ} (s : Split xs p q r from to) where
  pub owned-front : take from (owned [] xs) ≡ owned [] p
  owned-front = owned-take from [] xs ∙ ap (owned []) (split-front s)

  pub owned-middle : part from to (owned [] xs) ≡ owned (unclosed [] p) q
  owned-middle = owned-part from to [] xs ∙ (ap (λ z. owned (unclosed [] z) (part from to xs)) (split-front s) ∙ ap (owned (unclosed [] p)) (split-part s))

  pub owned-back : drop to (owned [] xs) ≡ owned (unclosed (unclosed [] p) q) r
  owned-back = owned-drop to [] xs ∙ (ap (λ z. owned (unclosed [] z) (drop to xs)) (split-fronts s) ∙ (ap (λ z. owned z (drop to xs)) (unclosed-append [] p q) ∙ ap (owned (unclosed (unclosed [] p) q)) (split-back s)))

  pub depth-from : depth_at xs from ≡ length (unclosed [] p)
  depth-from = ap (λ z. length (unclosed [] z)) (split-front s)

  pub depth-to : depth_at xs to ≡ length (unclosed (unclosed [] p) q)
  depth-to = ap (λ z. length (unclosed [] z)) (split-fronts s) ∙ ap length (unclosed-append [] p q)

-- the kinds of the nodes that are open at the start of a slice
abbrev pub slice_stack : Slice → List ℕ
slice_stack sl = unclosed [] (take sl.open_start sl.content)

pub slice-owned-is : (sl : Slice) → slice_owned sl ≡ owned (slice_stack sl) (slice_tokens sl)
slice-owned-is sl = owned-part sl.open_start (content_end sl) [] sl.content

pub record IsSlice (sl : Slice) : Type 0 where
  pub whole : is_whole sl.content ≡ true
  pub within : sl.open_start + sl.open_end ≤ length sl.content
  pub opens : are_opens (take sl.open_start sl.content) ≡ true
  pub closes : are_closes (drop (content_end sl) sl.content) ≡ true

pub slice-is : (sl : Slice) → is_slice sl ≡ true → IsSlice sl
slice-is sl h =
    let p₁ = is_whole sl.content in
    let p₂ = nat_le (sl.open_start + sl.open_end) (length sl.content) in
    let p₃ = are_opens (take sl.open_start sl.content) in
    let a = and_parts (p₁ && p₂ && p₃) (are_closes (drop (content_end sl) sl.content)) h in
    let b = and_parts (p₁ && p₂) p₃ a.0 in
    let c = and_parts p₁ p₂ b.0 in
    record { whole = c.0; within = leb-true (sl.open_start + sl.open_end) (length sl.content) c.1; opens = b.1; closes = a.1 }

pub is-slice : (sl : Slice) → IsSlice sl → is_slice sl ≡ true
is-slice sl w =
    and_from _ _ (and_from _ _ (and_from (is_whole sl.content) _ w.whole (le-leb (sl.open_start + sl.open_end) (length sl.content) w.within)) w.opens) w.closes

module _ (sl : Slice) (w : IsSlice sl) where
  abbrev end : ℕ
  end = content_end sl

  pub slice-split : Split sl.content (take sl.open_start sl.content) (slice_tokens sl) (drop end sl.content) sl.open_start end
  slice-split = split-at sl.content sl.open_start end (omega (arith, w.within)) (omega arith)

  pub slice-length : length (slice_tokens sl) ≡ slice_size sl
  slice-length = omega (arith, slice-split.at_to)

  -- the opens and closes of a slice are those of its content without its open sides
  pub slice-counts : opens (slice_tokens sl) + sl.open_start ≡ closes (slice_tokens sl) + sl.open_end
  slice-counts =
      let f = take sl.open_start sl.content in
      let m = slice_tokens sl in
      let b = drop end sl.content in
      let o = opens-all f w.opens in
      let k = closes-all b w.closes in
      omega (arith, w.within, whole-counts sl.content (whole-of sl.content w.whole), ap opens slice-split.is, ap closes slice-split.is, opens-append f (m ++ b), opens-append m b, closes-append f (m ++ b), closes-append m b, o.0, o.1, k.0, k.1, length-take sl.open_start sl.content, length-drop end sl.content)

-- the kinds of a list of opens
abbrev pub kinds_of : List Token → List ℕ
kinds_of [] = []
kinds_of (Open k a m ∷ ts) = k ∷ kinds_of ts
kinds_of (Close ∷ ts) = kinds_of ts
kinds_of (Leaf k a m ∷ ts) = kinds_of ts
kinds_of (CodeUnit u m ∷ ts) = kinds_of ts

opens-rest : (o : List Token) → are_opens o ≡ true → are_opens (rest_of o) ≡ true
opens-rest [] h = refl
opens-rest (Open k a m ∷ o) h = h
opens-rest (Close ∷ o) h = absurd (cc)
opens-rest (Leaf k a m ∷ o) h = absurd (cc)
opens-rest (CodeUnit u m ∷ o) h = absurd (cc)

kinds-rest : (o : List Token) → are_opens o ≡ true → kinds_of (rest_of o) ≡ tail_of (kinds_of o)
kinds-rest [] h = refl
kinds-rest (Open k a m ∷ o) h = refl
kinds-rest (Close ∷ o) h = absurd (cc)
kinds-rest (Leaf k a m ∷ o) h = absurd (cc)
kinds-rest (CodeUnit u m ∷ o) h = absurd (cc)

pub around-opens : (o ts : List Token) → are_opens o ≡ true → are_opens (around o ts) ≡ true
around-opens o [] h = h
around-opens o (Open k a m ∷ ts) h = around-opens (Open k a m ∷ o) ts h
around-opens o (Close ∷ ts) h = around-opens (rest_of o) ts (opens-rest o h)
around-opens o (Leaf k a m ∷ ts) h = around-opens o ts h
around-opens o (CodeUnit u m ∷ ts) h = around-opens o ts h

pub around-kinds : (o ts : List Token) → are_opens o ≡ true → kinds_of (around o ts) ≡ unclosed (kinds_of o) ts
around-kinds o [] h = refl
around-kinds o (Open k a m ∷ ts) h = around-kinds (Open k a m ∷ o) ts h
around-kinds o (Close ∷ ts) h = around-kinds (rest_of o) ts (opens-rest o h) ∙ ap (λ z. unclosed z ts) (kinds-rest o h)
around-kinds o (Leaf k a m ∷ ts) h = around-kinds o ts h
around-kinds o (CodeUnit u m ∷ ts) h = around-kinds o ts h

take-opens : (n : ℕ) (o : List Token) → are_opens o ≡ true → are_opens (take n o) ≡ true
take-opens zero o h = refl
take-opens (suc n) [] h = refl
take-opens (suc n) (Open k a m ∷ o) h = take-opens n o h
take-opens (suc n) (Close ∷ o) h = absurd (cc)
take-opens (suc n) (Leaf k a m ∷ o) h = absurd (cc)
take-opens (suc n) (CodeUnit u m ∷ o) h = absurd (cc)

kinds-take : (n : ℕ) (o : List Token) → are_opens o ≡ true → kinds_of (take n o) ≡ take n (kinds_of o)
kinds-take zero o h = refl
kinds-take (suc n) [] h = refl
kinds-take (suc n) (Open k a m ∷ o) h = ap (λ z. k ∷ z) (kinds-take n o h)
kinds-take (suc n) (Close ∷ o) h = absurd (cc)
kinds-take (suc n) (Leaf k a m ∷ o) h = absurd (cc)
kinds-take (suc n) (CodeUnit u m ∷ o) h = absurd (cc)

kinds-length : (o : List Token) → are_opens o ≡ true → length (kinds_of o) ≡ length o
kinds-length [] h = refl
kinds-length (Open k a m ∷ o) h = ap suc (kinds-length o h)
kinds-length (Close ∷ o) h = absurd (cc)
kinds-length (Leaf k a m ∷ o) h = absurd (cc)
kinds-length (CodeUnit u m ∷ o) h = absurd (cc)

unclosed-reverse : (o : List Token) → are_opens o ≡ true → unclosed [] (reverse o) ≡ kinds_of o
unclosed-reverse [] h = refl
unclosed-reverse (Open k a m ∷ o) h =
    ap (unclosed []) (reverse-append (Open k a m ∷ []) o) ∙ (unclosed-append [] (reverse o) (Open k a m ∷ []) ∙ ap (λ z. k ∷ z) (unclosed-reverse o h))
unclosed-reverse (Close ∷ o) h = absurd (cc)
unclosed-reverse (Leaf k a m ∷ o) h = absurd (cc)
unclosed-reverse (CodeUnit u m ∷ o) h = absurd (cc)

opens-both : (xs ys : List Token) → are_opens xs ≡ true → are_opens ys ≡ true → are_opens (xs ++ ys) ≡ true
opens-both [] ys h k = k
opens-both (Open j a m ∷ xs) ys h k = opens-both xs ys h k
opens-both (Close ∷ xs) ys h k = absurd (cc)
opens-both (Leaf j a m ∷ xs) ys h k = absurd (cc)
opens-both (CodeUnit u m ∷ xs) ys h k = absurd (cc)

opens-reverse : (o : List Token) → are_opens o ≡ true → are_opens (reverse o) ≡ true
opens-reverse [] h = refl
opens-reverse (Open k a m ∷ o) h = subst (λ z. are_opens z ≡ true) (sym (reverse-append (Open k a m ∷ []) o)) (opens-both (reverse o) (Open k a m ∷ []) (opens-reverse o h) refl)
opens-reverse (Close ∷ o) h = absurd (cc)
opens-reverse (Leaf k a m ∷ o) h = absurd (cc)
opens-reverse (CodeUnit u m ∷ o) h = absurd (cc)

pub closes-replicate : (n : ℕ) → are_closes (replicate n Close) ≡ true
closes-replicate zero = refl
closes-replicate (suc n) = closes-replicate n

unmet-opens : (d : ℕ) (o : List Token) → are_opens o ≡ true → unmet d o ≡ 0
unmet-opens d [] h = refl
unmet-opens d (Open k a m ∷ o) h = unmet-opens (suc d) o h
unmet-opens d (Close ∷ o) h = absurd (cc)
unmet-opens d (Leaf k a m ∷ o) h = absurd (cc)
unmet-opens d (CodeUnit u m ∷ o) h = absurd (cc)

unmet-closes : (n d : ℕ) → unmet d (replicate n Close) ≡ n - d
unmet-closes zero d = omega arith
unmet-closes (suc n) zero = omega (arith, unmet-closes n zero)
unmet-closes (suc n) (suc d) = omega (arith, unmet-closes n d)

-- a cut: its tokens, its size and its owners are those of the tokens that were cut
module _ (before ts : List Token) (h : unmet 0 ts ≤ length (unclosed [] before)) where
  abbrev opened : List Token
  opened = take (unmet 0 ts) (around [] before)

  abbrev left : ℕ
  left = length (unclosed [] ts)

  opened-opens : are_opens opened ≡ true
  opened-opens = take-opens (unmet 0 ts) (around [] before) (around-opens [] before refl)

  opened-length : length (reverse opened) ≡ unmet 0 ts
  opened-length = omega (arith, h, length-reverse opened, length-take (unmet 0 ts) (around [] before), kinds-length (around [] before) (around-opens [] before refl), ap length (around-kinds [] before refl))

  cut-split : Split (closed_over before ts).content (reverse opened) ts (replicate left Close) (unmet 0 ts) (content_end (closed_over before ts))
  cut-split = record {
    is = refl;
    at_from = opened-length;
    at_to = omega (arith, opened-length, length-append (reverse opened) (ts ++ replicate left Close), length-append ts (replicate left Close), length-replicate left Close);
  }

  abbrev opened_stack : List ℕ
  opened_stack = unclosed [] (reverse opened)

  stack-length : length opened_stack ≡ unmet 0 ts
  stack-length = omega (arith, ap length (unclosed-reverse opened opened-opens), kinds-length opened opened-opens, opened-length, length-reverse opened)

  left-length : length (unclosed opened_stack ts) ≡ left
  left-length = omega (arith, stack-length, unmet-from (length opened_stack) ts, level opened_stack ts, level [] ts)

  cut-whole : Whole (closed_over before ts).content
  cut-whole =
      let r = ts ++ replicate left Close in
      let k = unclosed opened_stack ts in
      let mk : unmet (length k) (replicate left Close) ≡ 0 = omega (arith, unmet-closes left (length k), left-length) in
      let c = closes-all (replicate left Close) (closes-replicate left) in
      record {
        met = omega (arith, unmet-append [] (reverse opened) r, unmet-opens 0 (reverse opened) (opens-reverse opened opened-opens), unmet-append opened_stack ts (replicate left Close), stack-length, unmet-from (length opened_stack) ts, mk);
        ended =
            unclosed-append [] (reverse opened) r ∙ (unclosed-append opened_stack ts (replicate left Close)
            ∙ nil_from_length (unclosed k (replicate left Close)) (omega (arith, level k (replicate left Close), mk, left-length, c.0, c.1, length-replicate left Close)));
      }

  -- a cut is a slice
  pub cut-slice : is_slice (closed_over before ts) ≡ true
  cut-slice = is-slice (closed_over before ts) (record {
    whole = of-whole (closed_over before ts).content cut-whole;
    within = omega (arith, opened-length, length-append (reverse opened) (ts ++ replicate left Close), length-append ts (replicate left Close), length-replicate left Close);
    opens = subst (λ z. are_opens z ≡ true) (sym (split-front cut-split)) (opens-reverse opened opened-opens);
    closes = subst (λ z. are_closes z ≡ true) (sym (split-back cut-split)) (closes-replicate left);
  })

  pub cut-tokens : slice_tokens (closed_over before ts) ≡ ts
  cut-tokens = split-part cut-split

  pub cut-size : slice_size (closed_over before ts) ≡ length ts
  cut-size = omega (arith, cut-split.at_to)

  pub cut-owned : slice_owned (closed_over before ts) ≡ owned (take (unmet 0 ts) (unclosed [] before)) ts
  cut-owned =
      let e : unclosed [] (reverse opened) ≡ take (unmet 0 ts) (unclosed [] before) = unclosed-reverse opened opened-opens ∙ (kinds-take (unmet 0 ts) (around [] before) (around-opens [] before refl) ∙ ap (take (unmet 0 ts)) (around-kinds [] before refl)) in
      owned-middle cut-split ∙ ap (λ z. owned z ts) e

pub drop-part : {A : Type 0} (xs : List A) (from to : ℕ) → from ≤ to → drop from xs ≡ part from to xs ++ drop to xs
drop-part xs from to h =
    sym (ap (λ z. part from to xs ++ z) (sym (drop-drop (to - from) from xs ∙ ap (λ n. drop n xs) (let e : from + (to - from) ≡ to = omega (arith, h) in e))) ∙ take-append-drop (to - from) (drop from xs))

-- a list in five pieces, with a gap in the middle
pub record Pieces {A : Type 0} (xs a x g y b : List A) (from gap_from gap_to to : ℕ) : Type 0 where
  pub is : xs ≡ a ++ (x ++ (g ++ (y ++ b)))
  pub at_from : length a ≡ from
  pub at_gap : from + length x ≡ gap_from
  pub at_end : gap_from + length g ≡ gap_to
  pub at_to : gap_to + length y ≡ to

pub pieces-at : {A : Type 0} (xs : List A) (from gap_from gap_to to : ℕ) → from ≤ gap_from → gap_from ≤ gap_to → gap_to ≤ to → to ≤ length xs
    → Pieces xs (take from xs) (part from gap_from xs) (part gap_from gap_to xs) (part gap_to to xs) (drop to xs) from gap_from gap_to to
pieces-at xs from gf gt to h i j k =
    let s₁ = split-at xs from gf h (omega (arith, i, j, k)) in
    let s₂ = split-at xs gf gt i (omega (arith, j, k)) in
    let s₃ = split-at xs gt to j k in
    record {
      is = s₁.is ∙ ap (λ z. take from xs ++ (part from gf xs ++ z)) (drop-part xs gf gt i ∙ ap (λ z. part gf gt xs ++ z) (drop-part xs gt to j));
      at_from = s₁.at_from;
      at_gap = s₁.at_to;
      at_end = s₂.at_to;
      at_to = s₃.at_to;
    }

module _ {A : Type 0} {xs a x g y b : List A} {from gf gt to : ℕ} (p : Pieces xs a x g y b from gf gt to) where
  pub pieces-first : Split xs a x (g ++ (y ++ b)) from gf
  pieces-first = record { is = p.is; at_from = p.at_from; at_to = p.at_gap }

  pub pieces-gap : Split xs (a ++ x) g (y ++ b) gf gt
  pieces-gap = record { is = p.is ∙ sym (append_assoc a x (g ++ (y ++ b))); at_from = omega (arith, p.at_from, p.at_gap, length-append a x); at_to = p.at_end }

  pub pieces-last : Split xs ((a ++ x) ++ g) y b gt to
  pieces-last = record {
    is = pieces-gap.is ∙ sym (append_assoc (a ++ x) g (y ++ b));
    at_from = omega (arith, pieces-gap.at_from, p.at_end, length-append (a ++ x) g);
    at_to = p.at_to;
  }

  pub pieces-length : length xs ≡ to + length b
  pieces-length = split-length pieces-last

module _ {xs a x g y b : List Token} {from gf gt to : ℕ} (p : Pieces xs a x g y b from gf gt to) (w : Whole g) where
  before-last : unclosed [] ((a ++ x) ++ g) ≡ unclosed (unclosed [] a) x
  before-last = unclosed-append [] (a ++ x) g ∙ (unclosed-whole (unclosed [] (a ++ x)) g w ∙ unclosed-append [] a x)

  pub owned-gap : part gf gt (owned [] xs) ≡ owned (unclosed (unclosed [] a) x) g
  owned-gap = owned-middle (pieces-gap p) ∙ ap (λ z. owned z g) (unclosed-append [] a x)

  pub owned-last : drop to (owned [] xs) ≡ owned (unclosed (unclosed (unclosed [] a) x) y) b
  owned-last = owned-back (pieces-last p) ∙ ap (λ z. owned (unclosed z y) b) before-last

  pub depth-last : depth_at xs to ≡ length (unclosed (unclosed (unclosed [] a) x) y)
  depth-last = depth-to (pieces-last p) ∙ ap (λ z. length (unclosed z y)) before-last
