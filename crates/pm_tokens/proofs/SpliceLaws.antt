-- The spliced list: in pieces, its length, and that it is whole nodes where its closes meet opens.
use Rattle.std.specs.Prelude.{◌≡◌, ℕ, ◌+◌, ◌-◌, ◌≤◌, Bool, true, List, [], ◌∷◌, ◌++◌, length, take, drop}
use Rattle.std.proofs.lemmas.List.{take-append-drop, drop-drop, take_all}
use Rattle.std.proofs.Common.{zero, suc, refl, ap, sym, ◌∙◌, subst, arith, length-append, length-take, length-drop}
use Rattle.pm_tokens.specs.Tokens.{Token}
use Rattle.pm_tokens.specs.Scan.{Owned, Opening, Closing, Single, Piece, unclosed, owned, plain, joins, part, depth_at}
use Rattle.pm_tokens.specs.Slices.{Slice, content_end, slice_tokens, slice_size, slice_owned, spliced, spliced_around}
use Rattle.pm_tokens.proofs.ListLaws.{take-nil}
use Rattle.pm_tokens.proofs.ScanLaws.{plain-append, plain-owned, owned-take, owned-drop, length-owned, opens, closes, opens-append, closes-append, Whole}
use Rattle.pm_tokens.proofs.PartLaws.{IsSlice, slice_stack, slice-owned-is, slice-length, slice-counts, Split, split-at, owned-front, owned-back, depth-from, depth-to, Pieces, pieces-at, pieces-first, owned-gap, owned-last, depth-last}
use Rattle.pm_tokens.proofs.Restored.{went, same-level, stands, whole-after, nothing}

pub length-plain : (xs : List Owned) → length (plain xs) ≡ length xs
length-plain [] = refl
length-plain (Opening k a m ∷ xs) = ap suc (length-plain xs)
length-plain (Closing o ∷ xs) = ap suc (length-plain xs)
length-plain (Single k a m ∷ xs) = ap suc (length-plain xs)
length-plain (Piece u m ∷ xs) = ap suc (length-plain xs)

-- ---- as parts of the document and of the slice's content

pub take-part : {A : Type 0} (n : ℕ) (xs : List A) → take n xs ≡ part 0 n xs
take-part n xs = ap (λ k. take k xs) (let e : n ≡ n - 0 = omega arith in e)

pub drop-end : {A : Type 0} (n : ℕ) (xs : List A) → drop n xs ≡ part n (length xs) xs
drop-end n xs = sym (take_all (length xs - n) (drop n xs) (omega (arith, length-drop n xs)))

take-twice : {A : Type 0} (n k : ℕ) (xs : List A) → n ≤ k → take n (take k xs) ≡ take n xs
take-twice zero k xs h = refl
take-twice (suc n) zero xs h = absurd (omega (arith, h))
take-twice (suc n) (suc k) [] h = refl
take-twice (suc n) (suc k) (x ∷ xs) h = ap (λ z. x ∷ z) (take-twice n k xs (omega (arith, h)))

drop-take : {A : Type 0} (n k : ℕ) (xs : List A) → drop n (take k xs) ≡ take (k - n) (drop n xs)
drop-take zero k xs = ap (λ j. take j xs) (let e : k ≡ k - 0 = omega arith in e)
drop-take (suc n) zero xs = ap (λ j. take j (drop (suc n) xs)) (let e : 0 ≡ 0 - suc n = omega arith in e)
drop-take (suc n) (suc k) [] = sym (take-nil (suc k - suc n))
drop-take (suc n) (suc k) (x ∷ xs) = drop-take n k xs ∙ ap (λ j. take j (drop n xs)) (let e : k - n ≡ suc k - suc n = omega arith in e)

-- the front and the rest of a part
pub part-front : {A : Type 0} (n from to : ℕ) (xs : List A) → from + n ≤ to → take n (part from to xs) ≡ part from (from + n) xs
part-front n from to xs h = take-twice n (to - from) (drop from xs) (omega (arith, h)) ∙ ap (λ k. take k (drop from xs)) (let e : n ≡ (from + n) - from = omega arith in e)

pub part-rest : {A : Type 0} (n from to : ℕ) (xs : List A) → drop n (part from to xs) ≡ part (from + n) to xs
part-rest n from to xs =
    drop-take n (to - from) (drop from xs)
    ∙ (ap (λ k. take k (drop n (drop from xs))) (let e : (to - from) - n ≡ to - (from + n) = omega arith in e) ∙ ap (take (to - (from + n))) (drop-drop n from xs))

-- the spliced list as a part of the document, one of the slice's content, and one of the document
pub spliced-parts : (ts : List Token) (from to : ℕ) (sl : Slice)
    → spliced ts from to sl ≡ part 0 from (owned [] ts) ++ (part sl.open_start (content_end sl) (owned [] sl.content) ++ part to (length ts) (owned [] ts))
spliced-parts ts from to sl =
    ap (λ z. z ++ (slice_owned sl ++ drop to (owned [] ts))) (take-part from (owned [] ts))
    ∙ ap (λ z. part 0 from (owned [] ts) ++ (slice_owned sl ++ z)) (drop-end to (owned [] ts) ∙ ap (λ n. part to n (owned [] ts)) (length-owned [] ts))

five-same : {a₀ a₁ a₂ a₃ b₀ b₁ b₂ b₃ : List Owned} (g : List Owned) → a₀ ≡ b₀ → a₁ ≡ b₁ → a₂ ≡ b₂ → a₃ ≡ b₃ → a₀ ++ (a₁ ++ (g ++ (a₂ ++ a₃))) ≡ b₀ ++ (b₁ ++ (g ++ (b₂ ++ b₃)))
five-same g h₀ h₁ h₂ h₃ = rw (h₀, h₁, h₂, h₃) refl

-- around a gap as five parts
pub around-parts : (ts : List Token) (from to gf gt : ℕ) (sl : Slice) (insert : ℕ) → insert ≤ slice_size sl
    → spliced_around ts from to gf gt sl insert ≡ part 0 from (owned [] ts) ++ (part sl.open_start (sl.open_start + insert) (owned [] sl.content) ++ (part gf gt (owned [] ts)
    ++ (part (sl.open_start + insert) (content_end sl) (owned [] sl.content) ++ part to (length ts) (owned [] ts))))
around-parts ts from to gf gt sl insert h =
    let o = owned [] ts in
    let c = owned [] sl.content in
    let g = part gf gt o in
    let first : take insert (slice_owned sl) ≡ part sl.open_start (sl.open_start + insert) c = front-of insert sl.open_start (content_end sl) c h in
    five-same g (take-part from o) first (part-rest insert sl.open_start (content_end sl) c) (drop-end to o ∙ ap (λ n. part to n o) (length-owned [] ts))
  where
    front-of : {A : Type 0} (n from to : ℕ) (xs : List A) → n ≤ to - from → take n (part from to xs) ≡ part from (from + n) xs
    front-of n from to xs k = take-twice n (to - from) (drop from xs) k ∙ ap (λ j. take j (drop from xs)) (let e : n ≡ (from + n) - from = omega arith in e)

-- ---- what a splice gives

plain-piece : (s : List ℕ) (p : List Token) (ys : List Owned) → plain (owned s p ++ ys) ≡ p ++ plain ys
plain-piece s p ys = plain-append (owned s p) ys ∙ ap (λ z. z ++ plain ys) (plain-owned s p)

module _ (c : ℕ → ℕ → Bool) (ts : List Token) (from to : ℕ) (sl : Slice) (v : Whole ts) (w : IsSlice sl) (h : from ≤ to) (i : to ≤ length ts)
    (fits_start : sl.open_start ≤ depth_at ts from) (fits_end : depth_at ts from + sl.open_end ≡ depth_at ts to + sl.open_start) where
  abbrev a : List Token
  a = take from ts

  abbrev x : List Token
  x = part from to ts

  abbrev b : List Token
  b = drop to ts

  abbrev m : List Token
  m = slice_tokens sl

  abbrev st : List ℕ
  st = slice_stack sl

  sp : Split ts a x b from to
  sp = split-at ts from to h i

  in-three : spliced ts from to sl ≡ owned [] a ++ (owned st m ++ owned (unclosed (unclosed [] a) x) b)
  in-three = rw (owned-front sp, slice-owned-is sl, owned-back sp) refl

  -- the tokens: those before, the slice's, and those after
  pub spliced-plain : plain (spliced ts from to sl) ≡ a ++ (m ++ b)
  spliced-plain =
      ap plain in-three
      ∙ (plain-piece [] a (owned st m ++ owned (unclosed (unclosed [] a) x) b)
      ∙ ap (λ z. a ++ z) (plain-piece st m (owned (unclosed (unclosed [] a) x) b) ∙ ap (λ z. m ++ z) (plain-owned (unclosed (unclosed [] a) x) b)))

  pub spliced-size : length (plain (spliced ts from to sl)) + (to - from) ≡ length ts + slice_size sl
  spliced-size =
      omega (arith, h, i, ap length spliced-plain, length-append a (m ++ b), length-append m b, slice-length sl w, length-take from ts, length-drop to ts)

  -- whole nodes, where each close meets an open
  pub spliced-whole : joins c [] (spliced ts from to sl) ≡ true → Whole (plain (spliced ts from to sl))
  spliced-whole j =
      let f = went c a x [] [] b m [] st nothing (subst (λ z. joins c [] z ≡ true) in-three j) in
      let o = stands a x [] [] b nothing (subst Whole sp.is v) in
      let start : sl.open_start ≤ length (unclosed [] a) = subst (λ n. sl.open_start ≤ n) (depth-from sp) fits_start in
      let end : length (unclosed [] a) + sl.open_end ≡ length (unclosed (unclosed [] a) x) + sl.open_start = omega (arith, fits_end, depth-from sp, depth-to sp) in
      let l = same-level c a x [] [] b m [] st nothing sl.open_start sl.open_end f (omega (arith, slice-counts sl w)) end in
      subst Whole (sym spliced-plain) (whole-after c a x [] [] b m [] st nothing o f l)

module _ (c : ℕ → ℕ → Bool) (ts : List Token) (from to gf gt : ℕ) (sl : Slice) (insert : ℕ) (v : Whole ts) (w : IsSlice sl) (h : from ≤ gf) (i : gf ≤ gt) (j : gt ≤ to) (k : to ≤ length ts)
    (within : insert ≤ slice_size sl) (gap : Whole (part gf gt ts))
    (fits_start : sl.open_start ≤ depth_at ts from) (fits_end : depth_at ts from + sl.open_end ≡ depth_at ts to + sl.open_start) where
  abbrev p : List Token
  p = take from ts

  abbrev y : List Token
  y = part from gf ts

  abbrev g : List Token
  g = part gf gt ts

  abbrev z : List Token
  z = part gt to ts

  abbrev q : List Token
  q = drop to ts

  abbrev n : List Token
  n = slice_tokens sl

  abbrev u : List ℕ
  u = slice_stack sl

  abbrev s₁ : List Token
  s₁ = take insert n

  abbrev s₂ : List Token
  s₂ = drop insert n

  pieces : Pieces ts p y g z q from gf gt to
  pieces = pieces-at ts from gf gt to h i j k

  abbrev was₁ : List ℕ
  was₁ = unclosed (unclosed [] p) y

  abbrev was₂ : List ℕ
  was₂ = unclosed was₁ z

  in-five : spliced_around ts from to gf gt sl insert ≡ owned [] p ++ (owned u s₁ ++ (owned was₁ g ++ (owned (unclosed u s₁) s₂ ++ owned was₂ q)))
  in-five = rw (owned-front (pieces-first pieces), slice-owned-is sl, owned-take insert u n, owned-drop insert u n, owned-gap pieces gap, owned-last pieces gap) refl

  -- the tokens: those before, the slice's first ones, the gap's, the slice's others, and those after
  pub around-plain : plain (spliced_around ts from to gf gt sl insert) ≡ p ++ (s₁ ++ (g ++ (s₂ ++ q)))
  around-plain =
      ap plain in-five
      ∙ (plain-piece [] p (owned u s₁ ++ (owned was₁ g ++ (owned (unclosed u s₁) s₂ ++ owned was₂ q))) ∙ ap (λ r. p ++ r)
      (plain-piece u s₁ (owned was₁ g ++ (owned (unclosed u s₁) s₂ ++ owned was₂ q)) ∙ ap (λ r. s₁ ++ r)
      (plain-piece was₁ g (owned (unclosed u s₁) s₂ ++ owned was₂ q) ∙ ap (λ r. g ++ r)
      (plain-piece (unclosed u s₁) s₂ (owned was₂ q) ∙ ap (λ r. s₂ ++ r) (plain-owned was₂ q)))))

  pub around-size : length (plain (spliced_around ts from to gf gt sl insert)) + ((gf - from) + (to - gt)) ≡ length ts + slice_size sl
  around-size =
      omega (arith, h, i, j, k, within, ap length around-plain, length-append p (s₁ ++ (g ++ (s₂ ++ q))), length-append s₁ (g ++ (s₂ ++ q)), length-append g (s₂ ++ q), length-append s₂ q, slice-length sl w, length-take insert n, length-drop insert n, length-take from ts, length-drop to ts, pieces.at_end)

  same-counts : (opens s₁ + opens s₂) + sl.open_start ≡ (closes s₁ + closes s₂) + sl.open_end
  same-counts = omega (arith, slice-counts sl w, ap opens (take-append-drop insert n), ap closes (take-append-drop insert n), opens-append s₁ s₂, closes-append s₁ s₂)

  end-fits : length (unclosed [] p) + sl.open_end ≡ length was₂ + sl.open_start
  end-fits = omega (arith, fits_end, depth-from (pieces-first pieces), depth-last pieces gap)

  -- whole nodes, where each close meets an open
  pub around-whole : joins c [] (spliced_around ts from to gf gt sl insert) ≡ true → Whole (plain (spliced_around ts from to gf gt sl insert))
  around-whole e =
      let f = went c p y g z q s₁ s₂ u gap (subst (λ r. joins c [] r ≡ true) in-five e) in
      let o = stands p y g z q gap (subst Whole pieces.is v) in
      let l = same-level c p y g z q s₁ s₂ u gap sl.open_start sl.open_end f same-counts end-fits in
      subst Whole (sym around-plain) (whole-after c p y g z q s₁ s₂ u gap o f l)
