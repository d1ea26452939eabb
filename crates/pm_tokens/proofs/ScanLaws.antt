-- How the readings go over lists that are joined, and over whole nodes.
use Rattle.std.specs.Prelude.{◌≡◌, ℕ, ◌+◌, ◌-◌, List, [], ◌∷◌, ◌++◌, length, take, drop, Bool, true, ◌&&◌, ◌==◌}
use Rattle.std.proofs.Math.Bool.{and_assoc}
use Rattle.std.proofs.lemmas.Bool.{eqb-true, eq-eqb, and_parts, and_from}
use Rattle.std.proofs.lemmas.List.{nil_from_length}
use Rattle.std.proofs.Common.{zero, suc, refl, ap, sym, ◌∙◌, subst, arith}
use Rattle.pm_tokens.specs.Tokens.{Token, Open, Close, Leaf, CodeUnit}
use Rattle.pm_tokens.specs.Scan.{Owned, Opening, Closing, Single, Piece, tail_of, head_of, unclosed, unmet, is_whole, owned, plain, joins, part, are_opens, are_closes}

pub unclosed-append : (s : List ℕ) (xs ys : List Token) → unclosed s (xs ++ ys) ≡ unclosed (unclosed s xs) ys
unclosed-append s [] ys = refl
unclosed-append s (Open k a m ∷ xs) ys = unclosed-append (k ∷ s) xs ys
unclosed-append s (Close ∷ xs) ys = unclosed-append (tail_of s) xs ys
unclosed-append s (Leaf k a m ∷ xs) ys = unclosed-append s xs ys
unclosed-append s (CodeUnit u m ∷ xs) ys = unclosed-append s xs ys

pub unmet-append : (s : List ℕ) (xs ys : List Token) → unmet (length s) (xs ++ ys) ≡ unmet (length s) xs + unmet (length (unclosed s xs)) ys
unmet-append s [] ys = omega arith
unmet-append s (Open k a m ∷ xs) ys = unmet-append (k ∷ s) xs ys
unmet-append [] (Close ∷ xs) ys = omega (arith, unmet-append [] xs ys)
unmet-append (k ∷ s) (Close ∷ xs) ys = unmet-append s xs ys
unmet-append s (Leaf k a m ∷ xs) ys = unmet-append s xs ys
unmet-append s (CodeUnit u m ∷ xs) ys = unmet-append s xs ys

pub owned-append : (s : List ℕ) (xs ys : List Token) → owned s (xs ++ ys) ≡ owned s xs ++ owned (unclosed s xs) ys
owned-append s [] ys = refl
owned-append s (Open k a m ∷ xs) ys = ap (λ z. Opening k a m ∷ z) (owned-append (k ∷ s) xs ys)
owned-append s (Close ∷ xs) ys = ap (λ z. Closing (head_of s) ∷ z) (owned-append (tail_of s) xs ys)
owned-append s (Leaf k a m ∷ xs) ys = ap (λ z. Single k a m ∷ z) (owned-append s xs ys)
owned-append s (CodeUnit u m ∷ xs) ys = ap (λ z. Piece u m ∷ z) (owned-append s xs ys)

pub plain-append : (xs ys : List Owned) → plain (xs ++ ys) ≡ plain xs ++ plain ys
plain-append [] ys = refl
plain-append (Opening k a m ∷ xs) ys = ap (λ z. Open k a m ∷ z) (plain-append xs ys)
plain-append (Closing o ∷ xs) ys = ap (λ z. Close ∷ z) (plain-append xs ys)
plain-append (Single k a m ∷ xs) ys = ap (λ z. Leaf k a m ∷ z) (plain-append xs ys)
plain-append (Piece u m ∷ xs) ys = ap (λ z. CodeUnit u m ∷ z) (plain-append xs ys)

pub plain-owned : (s : List ℕ) (xs : List Token) → plain (owned s xs) ≡ xs
plain-owned s [] = refl
plain-owned s (Open k a m ∷ xs) = ap (λ z. Open k a m ∷ z) (plain-owned (k ∷ s) xs)
plain-owned s (Close ∷ xs) = ap (λ z. Close ∷ z) (plain-owned (tail_of s) xs)
plain-owned s (Leaf k a m ∷ xs) = ap (λ z. Leaf k a m ∷ z) (plain-owned s xs)
plain-owned s (CodeUnit u m ∷ xs) = ap (λ z. CodeUnit u m ∷ z) (plain-owned s xs)

pub length-owned : (s : List ℕ) (xs : List Token) → length (owned s xs) ≡ length xs
length-owned s [] = refl
length-owned s (Open k a m ∷ xs) = ap suc (length-owned (k ∷ s) xs)
length-owned s (Close ∷ xs) = ap suc (length-owned (tail_of s) xs)
length-owned s (Leaf k a m ∷ xs) = ap suc (length-owned s xs)
length-owned s (CodeUnit u m ∷ xs) = ap suc (length-owned s xs)

pub owned-take : (n : ℕ) (s : List ℕ) (ts : List Token) → take n (owned s ts) ≡ owned s (take n ts)
owned-take zero s ts = refl
owned-take (suc n) s [] = refl
owned-take (suc n) s (Open k a m ∷ ts) = ap (λ z. Opening k a m ∷ z) (owned-take n (k ∷ s) ts)
owned-take (suc n) s (Close ∷ ts) = ap (λ z. Closing (head_of s) ∷ z) (owned-take n (tail_of s) ts)
owned-take (suc n) s (Leaf k a m ∷ ts) = ap (λ z. Single k a m ∷ z) (owned-take n s ts)
owned-take (suc n) s (CodeUnit u m ∷ ts) = ap (λ z. Piece u m ∷ z) (owned-take n s ts)

pub owned-drop : (n : ℕ) (s : List ℕ) (ts : List Token) → drop n (owned s ts) ≡ owned (unclosed s (take n ts)) (drop n ts)
owned-drop zero s ts = refl
owned-drop (suc n) s [] = refl
owned-drop (suc n) s (Open k a m ∷ ts) = owned-drop n (k ∷ s) ts
owned-drop (suc n) s (Close ∷ ts) = owned-drop n (tail_of s) ts
owned-drop (suc n) s (Leaf k a m ∷ ts) = owned-drop n s ts
owned-drop (suc n) s (CodeUnit u m ∷ ts) = owned-drop n s ts

pub owned-part : (f t : ℕ) (s : List ℕ) (ts : List Token) → part f t (owned s ts) ≡ owned (unclosed s (take f ts)) (part f t ts)
owned-part f t s ts = ap (take (t - f)) (owned-drop f s ts) ∙ owned-take (t - f) (unclosed s (take f ts)) (drop f ts)

-- opens and closes, counted
abbrev pub opens : List Token → ℕ
opens [] = 0
opens (Open k a m ∷ xs) = suc (opens xs)
opens (Close ∷ xs) = opens xs
opens (Leaf k a m ∷ xs) = opens xs
opens (CodeUnit u m ∷ xs) = opens xs

abbrev pub closes : List Token → ℕ
closes [] = 0
closes (Open k a m ∷ xs) = closes xs
closes (Close ∷ xs) = suc (closes xs)
closes (Leaf k a m ∷ xs) = closes xs
closes (CodeUnit u m ∷ xs) = closes xs

pub opens-append : (xs ys : List Token) → opens (xs ++ ys) ≡ opens xs + opens ys
opens-append [] ys = omega arith
opens-append (Open k a m ∷ xs) ys = omega (arith, opens-append xs ys)
opens-append (Close ∷ xs) ys = opens-append xs ys
opens-append (Leaf k a m ∷ xs) ys = opens-append xs ys
opens-append (CodeUnit u m ∷ xs) ys = opens-append xs ys

pub closes-append : (xs ys : List Token) → closes (xs ++ ys) ≡ closes xs + closes ys
closes-append [] ys = omega arith
closes-append (Open k a m ∷ xs) ys = closes-append xs ys
closes-append (Close ∷ xs) ys = omega (arith, closes-append xs ys)
closes-append (Leaf k a m ∷ xs) ys = closes-append xs ys
closes-append (CodeUnit u m ∷ xs) ys = closes-append xs ys

-- the open nodes after a list are counted by its opens and closes
pub level : (s : List ℕ) (xs : List Token) → length (unclosed s xs) + closes xs ≡ (length s + opens xs) + unmet (length s) xs
level s [] = omega arith
level s (Open k a m ∷ xs) = omega (arith, level (k ∷ s) xs)
level [] (Close ∷ xs) = omega (arith, level [] xs)
level (k ∷ s) (Close ∷ xs) = omega (arith, level s xs)
level s (Leaf k a m ∷ xs) = level s xs
level s (CodeUnit u m ∷ xs) = level s xs

-- deeper by n, n more closes are met
pub unmet-deeper : (n d e : ℕ) (xs : List Token) → e ≡ n + d → unmet e xs ≡ unmet d xs - n
unmet-deeper n d e [] h = omega arith
unmet-deeper n d e (Open k a m ∷ xs) h = unmet-deeper n (suc d) (suc e) xs (omega (arith, h))
unmet-deeper n zero zero (Close ∷ xs) h = omega (arith, h)
unmet-deeper n zero (suc e) (Close ∷ xs) h = let i = unmet-deeper e zero e xs (omega arith) in omega (arith, h, i)
unmet-deeper n (suc d) zero (Close ∷ xs) h = absurd (omega (arith, h))
unmet-deeper n (suc d) (suc e) (Close ∷ xs) h = unmet-deeper n d e xs (omega (arith, h))
unmet-deeper n d e (Leaf k a m ∷ xs) h = unmet-deeper n d e xs h
unmet-deeper n d e (CodeUnit u m ∷ xs) h = unmet-deeper n d e xs h

pub unmet-from : (d : ℕ) (xs : List Token) → unmet d xs ≡ unmet 0 xs - d
unmet-from d xs = unmet-deeper d 0 d xs (omega arith)

-- what lies further out is not read
pub unclosed-under : (s t : List ℕ) (xs : List Token) → unmet (length s) xs ≡ 0 → unclosed (s ++ t) xs ≡ unclosed s xs ++ t
unclosed-under s t [] h = refl
unclosed-under s t (Open k a m ∷ xs) h = unclosed-under (k ∷ s) t xs h
unclosed-under [] t (Close ∷ xs) h = absurd (omega (arith, h))
unclosed-under (k ∷ s) t (Close ∷ xs) h = unclosed-under s t xs h
unclosed-under s t (Leaf k a m ∷ xs) h = unclosed-under s t xs h
unclosed-under s t (CodeUnit u m ∷ xs) h = unclosed-under s t xs h

pub owned-under : (s t : List ℕ) (xs : List Token) → unmet (length s) xs ≡ 0 → owned (s ++ t) xs ≡ owned s xs
owned-under s t [] h = refl
owned-under s t (Open k a m ∷ xs) h = ap (λ z. Opening k a m ∷ z) (owned-under (k ∷ s) t xs h)
owned-under [] t (Close ∷ xs) h = absurd (omega (arith, h))
owned-under (k ∷ s) t (Close ∷ xs) h = ap (λ z. Closing k ∷ z) (owned-under s t xs h)
owned-under s t (Leaf k a m ∷ xs) h = ap (λ z. Single k a m ∷ z) (owned-under s t xs h)
owned-under s t (CodeUnit u m ∷ xs) h = ap (λ z. Piece u m ∷ z) (owned-under s t xs h)

-- a whole number of nodes
pub record Whole (xs : List Token) : Type 0 where
  pub met : unmet 0 xs ≡ 0
  pub ended : unclosed [] xs ≡ []

pub whole-of : (xs : List Token) → is_whole xs ≡ true → Whole xs
whole-of xs h =
    let b = and_parts (unmet 0 xs == 0) (length (unclosed [] xs) == 0) h in
    record { met = eqb-true (unmet 0 xs) 0 b.0; ended = nil_from_length (unclosed [] xs) (eqb-true (length (unclosed [] xs)) 0 b.1) }

pub of-whole : (xs : List Token) → Whole xs → is_whole xs ≡ true
of-whole xs w = and_from (unmet 0 xs == 0) (length (unclosed [] xs) == 0) (eq-eqb (unmet 0 xs) 0 w.met) (eq-eqb (length (unclosed [] xs)) 0 (ap length w.ended))

pub unclosed-whole : (s : List ℕ) (xs : List Token) → Whole xs → unclosed s xs ≡ s
unclosed-whole s xs w = unclosed-under [] s xs w.met ∙ ap (λ z. z ++ s) w.ended

pub owned-whole : (s : List ℕ) (xs : List Token) → Whole xs → owned s xs ≡ owned [] xs
owned-whole s xs w = owned-under [] s xs w.met

pub whole-counts : (xs : List Token) → Whole xs → opens xs ≡ closes xs
whole-counts xs w = omega (arith, level [] xs, w.met, ap length w.ended)

pub opens-all : (ts : List Token) → are_opens ts ≡ true → (opens ts ≡ length ts) × (closes ts ≡ 0)
opens-all [] h = (refl, refl)
opens-all (Open k a m ∷ ts) h = let r = opens-all ts h in (ap suc r.0, r.1)
opens-all (Close ∷ ts) h = absurd (cc)
opens-all (Leaf k a m ∷ ts) h = absurd (cc)
opens-all (CodeUnit u m ∷ ts) h = absurd (cc)

pub closes-all : (ts : List Token) → are_closes ts ≡ true → (closes ts ≡ length ts) × (opens ts ≡ 0)
closes-all [] h = (refl, refl)
closes-all (Open k a m ∷ ts) h = absurd (cc)
closes-all (Close ∷ ts) h = let r = closes-all ts h in (ap suc r.0, r.1)
closes-all (Leaf k a m ∷ ts) h = absurd (cc)
closes-all (CodeUnit u m ∷ ts) h = absurd (cc)

module _ (c : ℕ → ℕ → Bool) where
  pub joins-append : (s : List ℕ) (xs ys : List Owned) → joins c s (xs ++ ys) ≡ (joins c s xs && joins c (unclosed s (plain xs)) ys)
  joins-append s [] ys = refl
  joins-append s (Opening k a m ∷ xs) ys = joins-append (k ∷ s) xs ys
  joins-append [] (Closing o ∷ xs) ys = refl
  joins-append (k ∷ s) (Closing o ∷ xs) ys = ap (λ z. c k o && z) (joins-append s xs ys) ∙ sym (and_assoc (c k o) (joins c s xs) (joins c (unclosed s (plain xs)) ys))
  joins-append s (Single k a m ∷ xs) ys = joins-append s xs ys
  joins-append s (Piece u m ∷ xs) ys = joins-append s xs ys

  -- a piece after which the rest joins
  pub joins-put : (s t : List ℕ) (xs : List Token) (ys : List Owned) → joins c s (owned t xs) ≡ true → joins c (unclosed s xs) ys ≡ true → joins c s (owned t xs ++ ys) ≡ true
  joins-put s t xs ys h k =
      joins-append s (owned t xs) ys ∙ and_from _ _ h (subst (λ z. joins c (unclosed s z) ys ≡ true) (sym (plain-owned t xs)) k)

  pub joins-taken : (s t : List ℕ) (xs : List Token) (ys : List Owned) → joins c s (owned t xs ++ ys) ≡ true → (joins c s (owned t xs) ≡ true) × (joins c (unclosed s xs) ys ≡ true)
  joins-taken s t xs ys h =
      let b = and_parts (joins c s (owned t xs)) (joins c (unclosed s (plain (owned t xs))) ys) (sym (joins-append s (owned t xs) ys) ∙ h) in
      (b.0, subst (λ z. joins c (unclosed s z) ys ≡ true) (plain-owned t xs) b.1)

  pub joins-met : (s t : List ℕ) (xs : List Token) → joins c s (owned t xs) ≡ true → unmet (length s) xs ≡ 0
  joins-met s t [] h = refl
  joins-met s t (Open k a m ∷ xs) h = joins-met (k ∷ s) (k ∷ t) xs h
  joins-met [] t (Close ∷ xs) h = absurd (cc)
  joins-met (k ∷ s) t (Close ∷ xs) h = joins-met s (tail_of t) xs (and_parts (c k (head_of t)) (joins c s (owned (tail_of t) xs)) h).1
  joins-met s t (Leaf k a m ∷ xs) h = joins-met s t xs h
  joins-met s t (CodeUnit u m ∷ xs) h = joins-met s t xs h

  module _ (itself : (k : ℕ) → c k k ≡ true) where
    -- tokens join where they stand
    pub joins-self : (s : List ℕ) (xs : List Token) → unmet (length s) xs ≡ 0 → joins c s (owned s xs) ≡ true
    joins-self s [] h = refl
    joins-self s (Open k a m ∷ xs) h = joins-self (k ∷ s) xs h
    joins-self [] (Close ∷ xs) h = absurd (omega (arith, h))
    joins-self (k ∷ s) (Close ∷ xs) h = and_from (c k k) (joins c s (owned s xs)) (itself k) (joins-self s xs h)
    joins-self s (Leaf k a m ∷ xs) h = joins-self s xs h
    joins-self s (CodeUnit u m ∷ xs) h = joins-self s xs h

  module _ (itself : (k : ℕ) → c k k ≡ true) (both_ways : (k l : ℕ) → c k l ≡ c l k) where
    -- the open nodes and the owners change places
    pub joins-swap : (s t : List ℕ) (xs : List Token) → length s ≡ length t → joins c s (owned t xs) ≡ joins c t (owned s xs)
    joins-swap s t [] h = refl
    joins-swap s t (Open k a m ∷ xs) h = joins-swap (k ∷ s) (k ∷ t) xs (ap suc h)
    joins-swap [] [] (Close ∷ xs) h = refl
    joins-swap [] (k ∷ t) (Close ∷ xs) h = absurd (omega (arith, h))
    joins-swap (k ∷ s) [] (Close ∷ xs) h = absurd (omega (arith, h))
    joins-swap (k ∷ s) (l ∷ t) (Close ∷ xs) h = rw (both_ways k l) (ap (λ z. c l k && z) (joins-swap s t xs (omega (arith, h))))
    joins-swap s t (Leaf k a m ∷ xs) h = joins-swap s t xs h
    joins-swap s t (CodeUnit u m ∷ xs) h = joins-swap s t xs h
