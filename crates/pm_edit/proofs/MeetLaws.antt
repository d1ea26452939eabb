-- Closes before a position, and opens after it, told by the depths of the positions so far before and after.
use Rattle.std.specs.Prelude.{◌≡◌, ℕ, ◌+◌, ◌-◌, ◌≤◌, ◌<◌, Bool, true, false, ◌&&◌, ◌==◌, List, [], ◌∷◌, ◌++◌, length, take, drop, reverse}
use Rattle.std.proofs.Common.{zero, suc, refl, ap, sym, ◌∙◌, arith, length-take, length-drop}
use Rattle.std.proofs.lemmas.Bool.{eqb-true, eq-eqb, ne_eqb}
use Rattle.std.proofs.lemmas.List.{reverse-append, length-reverse}
use Rattle.pm_tokens.specs.Tokens.{Token, Open, Close, Leaf, CodeUnit}
use Rattle.pm_tokens.specs.Scan.{unclosed, unmet, is_whole, part, depth_at, are_closes}
use Rattle.pm_tokens.proofs.ScanLaws.{unclosed-append, unmet-append, whole-of}
use Rattle.pm_tokens.proofs.PartLaws.{split-at, split-fronts}
use Rattle.pm_slice.specs.Sides.{opens_first, closes_first, closes_last}
use Rattle.pm_auto.proofs.AcceptLaws.{both-ways}
use Rattle.pm_tokens.proofs.OwnedParts.{unclosed-le}
use Rattle.pm_slice.proofs.SideLaws.{closes-reverse}

-- ---- a token opens or closes at most one node

higher : (s : List ℕ) (xs : List Token) → length s ≤ length (unclosed s xs) + length xs
higher s [] = omega arith
higher s (Open k a m ∷ xs) = omega (arith, higher (k ∷ s) xs)
higher [] (Close ∷ xs) = omega arith
higher (k ∷ s) (Close ∷ xs) = omega (arith, higher s xs)
higher s (Leaf k a m ∷ xs) = omega (arith, higher s xs)
higher s (CodeUnit u m ∷ xs) = omega (arith, higher s xs)

-- no more nodes are around a position than tokens before it
pub depth-bound : (ts : List Token) (p : ℕ) → depth_at ts p ≤ p
depth-bound ts p = omega (arith, unclosed-le [] (take p ts), length-take p ts)

-- ---- opens

all-opens : (s : List ℕ) (d : ℕ) (ts : List Token) → d ≤ length ts → length (unclosed s (take d ts)) ≡ length s + d → opens_first d ts ≡ true
all-opens s zero ts l h = refl
all-opens s (suc d) [] l h = absurd (omega (arith, l))
all-opens s (suc d) (Open k a m ∷ ts) l h = all-opens (k ∷ s) d ts (omega (arith, l)) (omega (arith, h))
all-opens [] (suc d) (Close ∷ ts) l h = absurd (omega (arith, h, unclosed-le [] (take d ts), length-take d ts))
all-opens (k ∷ s) (suc d) (Close ∷ ts) l h = absurd (omega (arith, h, unclosed-le s (take d ts), length-take d ts))
all-opens s (suc d) (Leaf k a m ∷ ts) l h = absurd (omega (arith, h, unclosed-le s (take d ts), length-take d ts))
all-opens s (suc d) (CodeUnit u m ∷ ts) l h = absurd (omega (arith, h, unclosed-le s (take d ts), length-take d ts))

opens-all : (s : List ℕ) (d : ℕ) (ts : List Token) → opens_first d ts ≡ true → length (unclosed s (take d ts)) ≡ length s + d
opens-all s zero ts h = omega arith
opens-all s (suc d) [] h = absurd (cc)
opens-all s (suc d) (Open k a m ∷ ts) h = omega (arith, opens-all (k ∷ s) d ts h)
opens-all s (suc d) (Close ∷ ts) h = absurd (cc)
opens-all s (suc d) (Leaf k a m ∷ ts) h = absurd (cc)
opens-all s (suc d) (CodeUnit u m ∷ ts) h = absurd (cc)

opens-there : (d : ℕ) (ts : List Token) → opens_first d ts ≡ true → d ≤ length ts
opens-there zero ts h = omega arith
opens-there (suc d) [] h = absurd (cc)
opens-there (suc d) (Open k a m ∷ ts) h = omega (arith, opens-there d ts h)
opens-there (suc d) (Close ∷ ts) h = absurd (cc)
opens-there (suc d) (Leaf k a m ∷ ts) h = absurd (cc)
opens-there (suc d) (CodeUnit u m ∷ ts) h = absurd (cc)

-- ---- closes

all-closes : (s : List ℕ) (xs : List Token) → length s ≡ length (unclosed s xs) + length xs → are_closes xs ≡ true
all-closes s [] h = refl
all-closes s (Open k a m ∷ xs) h = absurd (omega (arith, h, higher (k ∷ s) xs))
all-closes [] (Close ∷ xs) h = absurd (omega (arith, h))
all-closes (k ∷ s) (Close ∷ xs) h = all-closes s xs (omega (arith, h))
all-closes s (Leaf k a m ∷ xs) h = absurd (omega (arith, h, higher s xs))
all-closes s (CodeUnit u m ∷ xs) h = absurd (omega (arith, h, higher s xs))

closes-all : (s : List ℕ) (xs : List Token) → are_closes xs ≡ true → unmet (length s) xs ≡ 0 → length s ≡ length (unclosed s xs) + length xs
closes-all s [] h w = omega arith
closes-all s (Open k a m ∷ xs) h w = absurd (cc)
closes-all [] (Close ∷ xs) h w = absurd (omega (arith, w))
closes-all (k ∷ s) (Close ∷ xs) h w = omega (arith, closes-all s xs h w)
closes-all s (Leaf k a m ∷ xs) h w = absurd (cc)
closes-all s (CodeUnit u m ∷ xs) h w = absurd (cc)

-- so many closes first are so many closes
closes-front : (d : ℕ) (xs ys : List Token) → length xs ≡ d → closes_first d (xs ++ ys) ≡ are_closes xs
closes-front zero [] ys e = refl
closes-front zero (x ∷ xs) ys e = absurd (omega (arith, e))
closes-front (suc d) [] ys e = absurd (omega (arith, e))
closes-front (suc d) (Open k a m ∷ xs) ys e = refl
closes-front (suc d) (Close ∷ xs) ys e = closes-front d xs ys (omega (arith, e))
closes-front (suc d) (Leaf k a m ∷ xs) ys e = refl
closes-front (suc d) (CodeUnit u m ∷ xs) ys e = refl

closes-there : (d : ℕ) (ts : List Token) → closes_first d ts ≡ true → d ≤ length ts
closes-there zero ts h = omega arith
closes-there (suc d) [] h = absurd (cc)
closes-there (suc d) (Open k a m ∷ ts) h = absurd (cc)
closes-there (suc d) (Close ∷ ts) h = omega (arith, closes-there d ts h)
closes-there (suc d) (Leaf k a m ∷ ts) h = absurd (cc)
closes-there (suc d) (CodeUnit u m ∷ ts) h = absurd (cc)

-- closes read backwards

-- the last d tokens of two lists are the second of them
closes-back : (d : ℕ) (front xs : List Token) → length xs ≡ d → closes_last d (front ++ xs) ≡ are_closes xs
closes-back d front xs e =
    ap (closes_first d) (reverse-append front xs) ∙ (closes-front d (reverse xs) (reverse front) (omega (arith, e, length-reverse xs)) ∙ closes-reverse xs)

-- ---- both, at a position

module _ (ts : List Token) (pos d : ℕ) where
  abbrev here : List ℕ
  here = unclosed [] (take pos ts)

  module _ (l : pos + d ≤ length ts) where
    opened-part : take (pos + d) ts ≡ take pos ts ++ take d (drop pos ts)
    opened-part =
        let h : pos ≤ pos + d = omega arith in
        let e : (pos + d) - pos ≡ d = omega arith in
        split-fronts (split-at ts pos (pos + d) h l) ∙ ap (λ n. take pos ts ++ take n (drop pos ts)) e

    opened-depth : depth_at ts (pos + d) ≡ length (unclosed here (take d (drop pos ts)))
    opened-depth = ap (λ z. length (unclosed [] z)) opened-part ∙ ap length (unclosed-append [] (take pos ts) (take d (drop pos ts)))

    opens-rest : d ≤ length (drop pos ts)
    opens-rest = omega (arith, l, length-drop pos ts)

    pub opens-test : (depth_at ts (pos + d) == depth_at ts pos + d) ≡ opens_first d (drop pos ts)
    opens-test =
        both-ways (depth_at ts (pos + d) == depth_at ts pos + d) (opens_first d (drop pos ts))
        (λ h. all-opens here d (drop pos ts) opens-rest (sym opened-depth ∙ eqb-true (depth_at ts (pos + d)) (depth_at ts pos + d) h))
        (λ h. eq-eqb (depth_at ts (pos + d)) (depth_at ts pos + d) (opened-depth ∙ opens-all here d (drop pos ts) h))

  module _ (whole : is_whole ts ≡ true) (l : d ≤ pos) (i : pos ≤ length ts) where
    abbrev front : List Token
    front = take (pos - d) ts

    abbrev piece : List Token
    piece = part (pos - d) pos ts

    closed-part : take pos ts ≡ front ++ piece
    closed-part = let h : pos - d ≤ pos = omega arith in split-fronts (split-at ts (pos - d) pos h i)

    piece-length : length piece ≡ d
    piece-length = let h : pos - d ≤ pos = omega arith in omega (arith, l, (split-at ts (pos - d) pos h i).at_to)

    closed-depth : depth_at ts pos ≡ length (unclosed (unclosed [] front) piece)
    closed-depth = ap (λ z. length (unclosed [] z)) closed-part ∙ ap length (unclosed-append [] front piece)

    -- the closes of the piece meet opens before it
    met : unmet (length (unclosed [] front)) piece ≡ 0
    met =
        let h : pos - d ≤ pos = omega arith in
        let sp = split-at ts (pos - d) pos h i in
        omega (arith, (whole-of ts whole).met, ap (unmet 0) sp.is, unmet-append [] front (piece ++ drop pos ts), unmet-append (unclosed [] front) piece (drop pos ts))

    pub closes-test : (depth_at ts (pos - d) == depth_at ts pos + d) ≡ closes_last d (take pos ts)
    closes-test =
        both-ways (depth_at ts (pos - d) == depth_at ts pos + d) (are_closes piece)
        (λ h. all-closes (unclosed [] front) piece (eqb-true (depth_at ts (pos - d)) (depth_at ts pos + d) h ∙ (ap (λ n. n + d) closed-depth ∙ ap (λ n. length (unclosed (unclosed [] front) piece) + n) (sym piece-length))))
        (λ h. eq-eqb (depth_at ts (pos - d)) (depth_at ts pos + d) (omega (arith, closes-all (unclosed [] front) piece h met, closed-depth, piece-length)))
        ∙ (sym (closes-back d front piece piece-length) ∙ ap (closes_last d) (sym closed-part))

  -- too many for the document

  second-false : (b : Bool) → (b && false) ≡ false
  second-false true = refl
  second-false false = refl

  not-true : (b : Bool) → (b ≡ true → ⊥) → b ≡ false
  not-true true h = absurd (h refl)
  not-true false h = refl

  pub none-before : pos ≤ length ts → pos < d → (closes_last d (take pos ts) && opens_first d (drop pos ts)) ≡ false
  none-before i l =
      let no : closes_last d (take pos ts) ≡ false = not-true (closes_last d (take pos ts)) (λ h. omega (arith, l, closes-there d (reverse (take pos ts)) h, length-reverse (take pos ts), length-take pos ts)) in
      ap (λ b. b && opens_first d (drop pos ts)) no

  pub none-behind : length ts - pos < d → (closes_last d (take pos ts) && opens_first d (drop pos ts)) ≡ false
  none-behind l =
      let no : opens_first d (drop pos ts) ≡ false = not-true (opens_first d (drop pos ts)) (λ h. omega (arith, l, opens-there d (drop pos ts) h, length-drop pos ts)) in
      ap (λ b. closes_last d (take pos ts) && b) no ∙ second-false (closes_last d (take pos ts))

  meet-test : is_whole ts ≡ true → d ≤ pos → pos + d ≤ length ts
      → ((depth_at ts (pos - d) == depth_at ts pos + d) && (depth_at ts (pos + d) == depth_at ts pos + d)) ≡ (closes_last d (take pos ts) && opens_first d (drop pos ts))
  meet-test w l i =
      let in_it : pos ≤ length ts = omega (arith, i) in
      ap (λ b. b && (depth_at ts (pos + d) == depth_at ts pos + d)) (closes-test w l in_it) ∙ ap (λ b. closes_last d (take pos ts) && b) (opens-test i)

  -- as the depths of the positions tell it
  abbrev Meets : Bool
  Meets = closes_last d (take pos ts) && opens_first d (drop pos ts)

  module _ (w : is_whole ts ≡ true) (l : d ≤ pos) (i : pos + d ≤ length ts) (here before behind : ℕ) (h : here ≡ depth_at ts pos) (b : before ≡ depth_at ts (pos - d)) (f : behind ≡ depth_at ts (pos + d)) where
    same : ((before == here + d) && (behind == here + d)) ≡ Meets
    same = ap (λ n. (n == here + d) && (behind == here + d)) b ∙ (ap (λ n. (depth_at ts (pos - d) == here + d) && (n == here + d)) f ∙ (ap (λ n. (depth_at ts (pos - d) == n + d) && (depth_at ts (pos + d) == n + d)) h ∙ meet-test w l i))

    pub meet-then : before ≡ here + d → (behind == here + d) ≡ Meets
    meet-then e = sym (ap (λ t. t && (behind == here + d)) (eq-eqb before (here + d) e)) ∙ same

    pub meet-else : (before ≡ here + d → ⊥) → (before == here + d) ≡ Meets
    meet-else e =
        let no : (before == here + d) ≡ false = ne_eqb before (here + d) e in
        no ∙ (sym (ap (λ t. t && (behind == here + d)) no) ∙ same)
