-- The greatest depth of a position, and the depth that two positions share.
use Rattle.std.specs.Prelude.{◌≡◌, ℕ, ◌+◌, ◌-◌, ◌≤◌, ◌<◌, ◌==◌, Bool, true, false, ◌||◌, cond, List, [], ◌∷◌, ◌++◌, length, take, drop}
use Rattle.std.specs.List.{list_any, filter, AllByRecursion}
use Rattle.std.proofs.lemmas.Bool.{eq-eqb, ne_eqb}
use Rattle.std.proofs.Common.{zero, suc, refl, ap, sym, ◌∙◌, subst, arith, append_assoc, length-take, length-drop}
use Rattle.pm_tokens.specs.Tokens.{Token, Open, Close, Leaf, CodeUnit}
use Rattle.pm_tokens.specs.Scan.{tail_of, unclosed, unmet, part, depth_at, open_places, open_at, shared_depth, deepest}
use Rattle.pm_tokens.specs.Slices.{cut}
use Rattle.pm_tokens.proofs.ScanLaws.{unmet-append, level, unmet-from}
use Rattle.pm_tokens.proofs.PartLaws.{split-at, split-fronts, depth-to}

-- ---- the greatest depth

pub deep-low : (d : ℕ) (ts : List Token) → d ≤ deepest d ts
deep-low d [] = omega arith
deep-low d (Open k a m ∷ ts) = let i = deep-low (suc d) ts in omega (arith, i)
deep-low zero (Close ∷ ts) = omega arith
deep-low (suc d) (Close ∷ ts) = omega arith
deep-low d (Leaf k a m ∷ ts) = deep-low d ts
deep-low d (CodeUnit u m ∷ ts) = deep-low d ts

-- where the greatest depth is bounded, so is each
deep-each : (n : ℕ) (s : List ℕ) (ts : List Token) → deepest (length s) ts ≤ n → (p : ℕ) → length (unclosed s (take p ts)) ≤ n
deep-each n s ts h zero = let l = deep-low (length s) ts in omega (arith, h, l)
deep-each n s [] h (suc p) = h
deep-each n s (Open k a m ∷ ts) h (suc p) = deep-each n (k ∷ s) ts h p
deep-each n [] (Close ∷ ts) h (suc p) = deep-each n [] ts h p
deep-each n (k ∷ s) (Close ∷ ts) h (suc p) = deep-each n s ts (omega (arith, h)) p
deep-each n s (Leaf k a m ∷ ts) h (suc p) = deep-each n s ts h p
deep-each n s (CodeUnit u m ∷ ts) h (suc p) = deep-each n s ts h p

-- and where each is bounded, so is the greatest
each-deep : (n : ℕ) (s : List ℕ) (ts : List Token) → ((p : ℕ) → length (unclosed s (take p ts)) ≤ n) → deepest (length s) ts ≤ n
each-deep n s [] h = h 0
each-deep n s (Open k a m ∷ ts) h = each-deep n (k ∷ s) ts (λ p. h (suc p))
each-deep n [] (Close ∷ ts) h = each-deep n [] ts (λ p. h (suc p))
each-deep n (k ∷ s) (Close ∷ ts) h = let i = each-deep n s ts (λ p. h (suc p)) in omega (arith, i, h 0)
each-deep n s (Leaf k a m ∷ ts) h = each-deep n s ts (λ p. h (suc p))
each-deep n s (CodeUnit u m ∷ ts) h = each-deep n s ts (λ p. h (suc p))

pub deepest-bounds : (n : ℕ) (ts : List Token) → deepest 0 ts ≤ n → (p : ℕ) → depth_at ts p ≤ n
deepest-bounds n ts h p = deep-each n [] ts h p

pub depths-bound : (n : ℕ) (ts : List Token) → ((p : ℕ) → depth_at ts p ≤ n) → deepest 0 ts ≤ n
depths-bound n ts h = each-deep n [] ts h

-- ---- places of open tokens

drop-tail : (n : ℕ) (s : List ℕ) → drop n (tail_of s) ≡ drop (suc n) s
drop-tail zero [] = refl
drop-tail (suc n) [] = refl
drop-tail n (k ∷ s) = refl

-- the opens of the tokens themselves, and those that were open before and are not closed
places-under : (at : ℕ) (a s : List ℕ) (ts : List Token) → open_places at (a ++ s) ts ≡ open_places at a ts ++ drop (unmet (length a) ts) s
places-under at a s [] = refl
places-under at a s (Open k x m ∷ ts) = places-under (at + 1) (at ∷ a) s ts
places-under at [] s (Close ∷ ts) = places-under (at + 1) [] (tail_of s) ts ∙ ap (λ z. open_places (at + 1) [] ts ++ z) (drop-tail (unmet 0 ts) s)
places-under at (k ∷ a) s (Close ∷ ts) = places-under (at + 1) a s ts
places-under at a s (Leaf k x m ∷ ts) = places-under (at + 1) a s ts
places-under at a s (CodeUnit u m ∷ ts) = places-under (at + 1) a s ts

pub places-append : (at : ℕ) (s : List ℕ) (xs ys : List Token) → open_places at s (xs ++ ys) ≡ open_places (at + length xs) (open_places at s xs) ys
places-append at s [] ys = ap (λ n. open_places n s ys) (let e : at ≡ at + 0 = omega arith in e)
places-append at s (Open k a m ∷ xs) ys = places-append (at + 1) (at ∷ s) xs ys ∙ ap (λ n. open_places n (open_places (at + 1) (at ∷ s) xs) ys) (let e : (at + 1) + length xs ≡ at + suc (length xs) = omega arith in e)
places-append at s (Close ∷ xs) ys = places-append (at + 1) (tail_of s) xs ys ∙ ap (λ n. open_places n (open_places (at + 1) (tail_of s) xs) ys) (let e : (at + 1) + length xs ≡ at + suc (length xs) = omega arith in e)
places-append at s (Leaf k a m ∷ xs) ys = places-append (at + 1) s xs ys ∙ ap (λ n. open_places n (open_places (at + 1) s xs) ys) (let e : (at + 1) + length xs ≡ at + suc (length xs) = omega arith in e)
places-append at s (CodeUnit u m ∷ xs) ys = places-append (at + 1) s xs ys ∙ ap (λ n. open_places n (open_places (at + 1) s xs) ys) (let e : (at + 1) + length xs ≡ at + suc (length xs) = omega arith in e)

pub places-length : (at : ℕ) (s r : List ℕ) (ts : List Token) → length s ≡ length r → length (open_places at s ts) ≡ length (unclosed r ts)
places-length at s r [] h = h
places-length at s r (Open k a m ∷ ts) h = places-length (at + 1) (at ∷ s) (k ∷ r) ts (ap suc h)
places-length at [] [] (Close ∷ ts) h = places-length (at + 1) [] [] ts refl
places-length at [] (k ∷ r) (Close ∷ ts) h = absurd (omega (arith, h))
places-length at (k ∷ s) [] (Close ∷ ts) h = absurd (omega (arith, h))
places-length at (j ∷ s) (k ∷ r) (Close ∷ ts) h = places-length (at + 1) s r ts (omega (arith, h))
places-length at s r (Leaf k a m ∷ ts) h = places-length (at + 1) s r ts h
places-length at s r (CodeUnit u m ∷ ts) h = places-length (at + 1) s r ts h

-- the places fall strictly from one below n, the innermost first
abbrev Falls : ℕ → List ℕ → Type 0
Falls n [] = Unit {0}
Falls n (p ∷ ps) = (p < n) × Falls p ps

falls-more : (n m : ℕ) (ps : List ℕ) → n ≤ m → Falls n ps → Falls m ps
falls-more n m [] l h = tt
falls-more n m (p ∷ ps) l h = (omega (arith, l, h.0), h.1)

falls-tail : (n : ℕ) (ps : List ℕ) → Falls n ps → Falls n (tail_of ps)
falls-tail n [] h = tt
falls-tail n (p ∷ ps) h = falls-more p n ps (omega (arith, h.0)) h.1

places-fall : (at : ℕ) (s : List ℕ) (ts : List Token) → Falls at s → Falls (at + length ts) (open_places at s ts)
places-fall at s [] h = falls-more at (at + 0) s (omega arith) h
places-fall at s (Open k a m ∷ ts) h = falls-more _ _ (open_places (at + 1) (at ∷ s) ts) (omega arith) (places-fall (at + 1) (at ∷ s) ts (omega arith, h))
places-fall at s (Close ∷ ts) h = falls-more _ _ (open_places (at + 1) (tail_of s) ts) (omega arith) (places-fall (at + 1) (tail_of s) ts (falls-more at (at + 1) (tail_of s) (omega arith) (falls-tail at s h)))
places-fall at s (Leaf k a m ∷ ts) h = falls-more _ _ (open_places (at + 1) s ts) (omega arith) (places-fall (at + 1) s ts (falls-more at (at + 1) s (omega arith) h))
places-fall at s (CodeUnit u m ∷ ts) h = falls-more _ _ (open_places (at + 1) s ts) (omega arith) (places-fall (at + 1) s ts (falls-more at (at + 1) s (omega arith) h))

-- all are from n on
abbrev AllFrom : ℕ → List ℕ → Type 0
AllFrom n ps = AllByRecursion (λ p. n ≤ p) ps

pub from-tail : (n : ℕ) (ps : List ℕ) → AllFrom n ps → AllFrom n (tail_of ps)
from-tail n [] h = tt
from-tail n (p ∷ ps) h = h.1

pub places-from : (n at : ℕ) (s : List ℕ) (ts : List Token) → n ≤ at → AllFrom n s → AllFrom n (open_places at s ts)
places-from n at s [] l h = h
places-from n at s (Open k a m ∷ ts) l h = places-from n (at + 1) (at ∷ s) ts (omega (arith, l)) (l, h)
places-from n at s (Close ∷ ts) l h = places-from n (at + 1) (tail_of s) ts (omega (arith, l)) (from-tail n s h)
places-from n at s (Leaf k a m ∷ ts) l h = places-from n (at + 1) s ts (omega (arith, l)) h
places-from n at s (CodeUnit u m ∷ ts) l h = places-from n (at + 1) s ts (omega (arith, l)) h

-- ---- places in common

abbrev is_in : List ℕ → ℕ → Bool
is_in qs o = list_any (λ n. o == n) qs

or-true : (b : Bool) → (b || true) ≡ true
or-true true = refl
or-true false = refl

in-more : (o n : ℕ) (qs : List ℕ) → is_in qs o ≡ true → is_in (n ∷ qs) o ≡ true
in-more o n qs h = rw h (or-true (o == n))

in-here : (o : ℕ) (news rest : List ℕ) → is_in (news ++ (o ∷ rest)) o ≡ true
in-here o [] rest = rw (eq-eqb o o refl) refl
in-here o (a ∷ news) rest = in-more o a (news ++ (o ∷ rest)) (in-here o news rest)

not-in-new : (o n : ℕ) (news rest : List ℕ) → o < n → AllFrom n news → is_in rest o ≡ false → is_in (news ++ rest) o ≡ false
not-in-new o n [] rest l h e = e
not-in-new o n (a ∷ news) rest l h e = rw (ne_eqb o a (λ same. omega (arith, l, h.0, same)), not-in-new o n news rest l h.1 e) refl

not-below : (o n : ℕ) (rest : List ℕ) → n ≤ o → Falls n rest → is_in rest o ≡ false
not-below o n [] l h = refl
not-below o n (b ∷ rest) l h = rw (ne_eqb o b (λ same. omega (arith, l, h.0, same)), not-below o b rest (omega (arith, l, h.0)) h.1) refl

not-dropped : (o n k : ℕ) (rest : List ℕ) → n ≤ o → Falls n rest → is_in (drop k rest) o ≡ false
not-dropped o n zero rest l h = not-below o n rest l h
not-dropped o n (suc k) [] l h = refl
not-dropped o n (suc k) (b ∷ rest) l h = not-dropped o b k rest (omega (arith, l, h.0)) h.1

-- all of what is left is there
all-kept : (news done ps : List ℕ) → filter (is_in (news ++ (done ++ ps))) ps ≡ ps
all-kept news done [] = refl
all-kept news done (p ∷ ps) =
    let here : is_in (news ++ (done ++ (p ∷ ps))) p ≡ true = ap (λ z. is_in z p) (sym (append_assoc news done (p ∷ ps))) ∙ in-here p (news ++ done) ps in
    let kept : filter (is_in (news ++ (done ++ (p ∷ ps)))) ps ≡ ps = ap (λ z. filter (is_in (news ++ z)) ps) (sym (append_assoc done (p ∷ []) ps)) ∙ all-kept news (done ++ (p ∷ [])) ps in
    ap (λ b. cond b (p ∷ filter (is_in (news ++ (done ++ (p ∷ ps)))) ps) (filter (is_in (news ++ (done ++ (p ∷ ps)))) ps)) here ∙ ap (λ z. p ∷ z) kept

-- of places that fall, those are kept that are not dropped: the others in the list are from n on
kept-is : (n k : ℕ) (news ps : List ℕ) → AllFrom n news → Falls n ps → filter (is_in (news ++ drop k ps)) ps ≡ drop k ps
kept-is n zero news ps f h = all-kept news [] ps
kept-is n (suc k) news [] f h = refl
kept-is n (suc k) news (p ∷ ps) f h =
    let gone : is_in (news ++ drop k ps) p ≡ false = not-in-new p n news (drop k ps) h.0 f (not-dropped p p k ps (omega arith) h.1) in
    ap (λ b. cond b (p ∷ filter (is_in (news ++ drop k ps)) ps) (filter (is_in (news ++ drop k ps)) ps)) gone ∙ kept-is n k news ps f (falls-more p n ps (omega (arith, h.0)) h.1)

-- the depth that two positions share is that of the first, less the closes between them that meet no open there
pub shared-is : (ts : List Token) (from to : ℕ) → from ≤ to → to ≤ length ts → shared_depth ts from to ≡ depth_at ts from - unmet 0 (part from to ts)
shared-is ts from to h i =
    let a = take from ts in
    let x = part from to ts in
    let ps = open_at ts from in
    let k = unmet 0 x in
    let new = open_places from [] x in
    let all : take to ts ≡ a ++ x = fronts in
    let fa : 0 + length a ≡ from = omega (arith, h, i, length-take from ts) in
    let qs : open_at ts to ≡ new ++ drop k ps = ap (open_places 0 []) all ∙ (places-append 0 [] a x ∙ (ap (λ n. open_places n ps x) fa ∙ places-under from [] ps x)) in
    let falls : Falls from ps = subst (λ n. Falls n ps) fa (places-fall 0 [] a tt) in
    let common : filter (is_in (open_at ts to)) ps ≡ drop k ps = ap (λ z. filter (is_in z) ps) qs ∙ kept-is from k new ps (places-from from from [] x (omega arith) tt) falls in
    ap length common ∙ (length-drop k ps ∙ ap (λ n. n - k) (places-length 0 [] [] a refl))
  where
    fronts : take to ts ≡ take from ts ++ part from to ts
    fronts = split-fronts (split-at ts from to h i)

-- the open sides of a cut are the depths of its ends, each less the shared depth
pub cut-sides : (ts : List Token) (from to : ℕ) → unmet 0 ts ≡ 0 → from ≤ to → to ≤ length ts
    → ((cut ts from to).open_start + shared_depth ts from to ≡ depth_at ts from) × ((cut ts from to).open_end + shared_depth ts from to ≡ depth_at ts to)
cut-sides ts from to w h i =
    let sp = split-at ts from to h i in
    let a = take from ts in
    let x = part from to ts in
    let b = drop to ts in
    let met : unmet 0 a + (unmet (length (unclosed [] a)) x + unmet (length (unclosed (unclosed [] a) x)) b) ≡ 0 =
    sym (unmet-append [] a (x ++ b) ∙ ap (λ z. unmet 0 a + z) (unmet-append (unclosed [] a) x b)) ∙ (ap (unmet 0) (sym sp.is) ∙ w) in
    let s = shared-is ts from to h i in
    let u = unmet-from (length (unclosed [] a)) x in
    (omega (arith, s, met, u), omega (arith, s, met, u, depth-to sp, level (unclosed [] a) x, level [] x))
