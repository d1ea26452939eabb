-- Bytes cut at an LF, and the front of a line that is kept.
use Rattle.std.proofs.Common.{◌≡◌, ◌≤◌, ◌<◌, ◌+◌, ◌-◌, ◌++◌, ◌∙◌, ℕ, zero, suc, Bool, true, false, not, cond, List, [], ◌∷◌, length, take, drop, get_or, refl, ap, sym, arith, ◌||◌}
use Rattle.std.specs.Prelude.{min, nat_lt, ◌==◌, Some, None, position}
use Rattle.std.specs.List.{prefix_len}
use Rattle.std.proofs.lemmas.Bool.Decides.{nat_tests}
use Rattle.std.proofs.lemmas.List.{take-append-drop, length-take, drop-take, drop-drop}
use Rattle.std.proofs.lemmas.List.Quantifiers.{position-Some}
use Rattle.std.proofs.lemmas.List.Folds.{list_any-append}
use Rattle.std.proofs.Math.Seq.{take-append-add, drop-cons}
use Rattle.pm_serve.specs.Bytes.{has_lf}

ten : (b : ℕ) → (b == 10) ≡ true → b ≡ 10
ten b h = grind (arith, nat_tests)

no_lf-before : (xs : List ℕ) (i : ℕ) → ((k : ℕ) → k < i → (get_or xs k 0 == 10) ≡ false) → has_lf (take i xs) ≡ false
no_lf-before [] zero h = refl
no_lf-before [] (suc i) h = refl
no_lf-before (x ∷ xs) zero h = refl
no_lf-before (x ∷ xs) (suc i) h = rw (h zero (omega arith)) (no_lf-before xs i (λ k l. h (suc k) (omega arith)))

-- a search for LF that finds one
pub cut : (xs : List ℕ) (i : ℕ) → position (λ b. b == 10) xs ≡ Some i → (i < length xs) × (xs ≡ take i xs ++ 10 ∷ drop (i + 1) xs) × (has_lf (take i xs) ≡ false)
cut xs i h =
    let at = position-Some (λ b. b == 10) xs i 0 h in
    let next : suc i ≡ i + 1 = omega arith in
    let rest : drop i xs ≡ 10 ∷ drop (i + 1) xs = drop-cons xs i 0 at.0 ∙ ap (λ b. b ∷ drop (suc i) xs) (ten (get_or xs i 0) at.1) ∙ ap (λ k. 10 ∷ drop k xs) next in
    (at.0, sym (take-append-drop i xs) ∙ ap (λ r. take i xs ++ r) rest, no_lf-before xs i at.2)

abbrev place : List ℕ → ℕ
place bytes = prefix_len (λ b. not (b == 10)) bytes

no_smaller : (k n : ℕ) → nat_lt (1 + k) (suc n) ≡ false → nat_lt k n ≡ false
no_smaller k n h = grind (arith, nat_tests)

not_zero : (n : ℕ) → nat_lt 0 (suc n) ≡ false → ⊥
not_zero n h = grind (arith, nat_tests)

none-step : (t : Bool) (k n : ℕ) (r : Bool) → (nat_lt k n ≡ false → r ≡ false) → nat_lt (cond (not t) (1 + k) 0) (suc n) ≡ false → (t || r) ≡ false
none-step true k n r h past = absurd (not_zero n past)
none-step false k n r h past = h (no_smaller k n past)

none-past : (bytes : List ℕ) → nat_lt (place bytes) (length bytes) ≡ false → has_lf bytes ≡ false
none-past [] past = refl
none-past (b ∷ bytes) past = none-step (b == 10) (place bytes) (length bytes) (has_lf bytes) (none-past bytes) past

missing : (t : Bool) (k : ℕ) → cond t (Some k) None ≡ None → t ≡ false
missing true k is = absurd (cc)
missing false k is = refl

-- a search for LF that finds none
pub none : (xs : List ℕ) → position (λ b. b == 10) xs ≡ None → has_lf xs ≡ false
none xs h = none-past xs (missing _ (place xs) h)

-- the bytes after the first i + 1 of those between two places
pub rest_of : (piece : List ℕ) (at end n : ℕ) → n ≤ length (take (end - at) (drop at piece)) → drop n (take (end - at) (drop at piece)) ≡ take (end - (at + n)) (drop (at + n) piece)
rest_of piece at end n h =
    let m = end - (at + n) in
    let whole : end - at ≡ n + m = omega (arith, length-take (end - at) (drop at piece)) in
    ap (λ k. drop n (take k (drop at piece))) whole ∙ drop-take n m (drop at piece) ∙ ap (take m) (drop-drop n at piece)

-- ---- what is kept

take_min : (xs : List ℕ) (m : ℕ) → take (min (length xs) m) xs ≡ take m xs
take_min [] zero = refl
take_min [] (suc m) = let e : min 0 (suc m) ≡ 0 = omega arith in rw e refl
take_min (x ∷ xs) zero = let e : min (suc (length xs)) 0 ≡ 0 = omega arith in rw e refl
take_min (x ∷ xs) (suc m) = let e : min (suc (length xs)) (suc m) ≡ suc (min (length xs) m) = omega arith in rw e (ap (λ r. x ∷ r) (take_min xs m))

pub add-kept : (xs more : List ℕ) (k n : ℕ) → length xs ≤ k → n ≡ min (length more) (k - length xs) → xs ++ take n more ≡ take k (xs ++ more)
add-kept xs more k n h e =
    let m = k - length xs in
    let whole : length xs + m ≡ k = omega arith in
    ap (λ j. xs ++ take j more) e ∙ ap (λ r. xs ++ r) (take_min more m) ∙ sym (take-append-add xs more m) ∙ ap (λ j. take j (xs ++ more)) whole

-- bytes after what is kept of others are kept as after all of them
pub kept-more : (k : ℕ) (xs ys : List ℕ) → take k (take k xs ++ ys) ≡ take k (xs ++ ys)
kept-more zero xs ys = refl
kept-more (suc k) [] ys = refl
kept-more (suc k) (x ∷ xs) ys = ap (λ r. x ∷ r) (kept-more k xs ys)

or-false : (a b : Bool) → a ≡ false → b ≡ false → (a || b) ≡ false
or-false a b h j = rw (h, j) refl

pub no_lf-append : (xs ys : List ℕ) → has_lf xs ≡ false → has_lf ys ≡ false → has_lf (xs ++ ys) ≡ false
no_lf-append xs ys h j = list_any-append (λ b. b == 10) xs ys ∙ or-false (has_lf xs) (has_lf ys) h j
