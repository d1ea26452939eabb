-- How many nodes each position of a list stands in, part by part.
use Rattle.std.proofs.Common.{◌≡◌, ℕ, zero, suc, ◌+◌, ◌≤◌, List, [], ◌∷◌, ◌++◌, length, take, true, arith}
use Rattle.pm_tokens.specs.Tokens.{Token, Open, Close, Leaf, CodeUnit}
use Rattle.pm_tokens.specs.Scan.{tail_of, unclosed, are_opens, are_closes}

-- each position stands in at most n nodes, where those of the stack are open before
abbrev pub Low : ℕ → List ℕ → List Token → Type 0
Low n s ts = (p : ℕ) → length (unclosed s (take p ts)) ≤ n

pub low-front : (n : ℕ) (s : List ℕ) (xs ys : List Token) → Low n s (xs ++ ys) → Low n s xs
low-front n s [] ys h zero = h 0
low-front n s [] ys h (suc p) = h 0
low-front n s (Open k a m ∷ xs) ys h zero = h 0
low-front n s (Open k a m ∷ xs) ys h (suc p) = low-front n (k ∷ s) xs ys (λ q. h (suc q)) p
low-front n s (Close ∷ xs) ys h zero = h 0
low-front n s (Close ∷ xs) ys h (suc p) = low-front n (tail_of s) xs ys (λ q. h (suc q)) p
low-front n s (Leaf k a m ∷ xs) ys h zero = h 0
low-front n s (Leaf k a m ∷ xs) ys h (suc p) = low-front n s xs ys (λ q. h (suc q)) p
low-front n s (CodeUnit u m ∷ xs) ys h zero = h 0
low-front n s (CodeUnit u m ∷ xs) ys h (suc p) = low-front n s xs ys (λ q. h (suc q)) p

pub low-behind : (n : ℕ) (s : List ℕ) (xs ys : List Token) → Low n s (xs ++ ys) → Low n (unclosed s xs) ys
low-behind n s [] ys h = h
low-behind n s (Open k a m ∷ xs) ys h = low-behind n (k ∷ s) xs ys (λ q. h (suc q))
low-behind n s (Close ∷ xs) ys h = low-behind n (tail_of s) xs ys (λ q. h (suc q))
low-behind n s (Leaf k a m ∷ xs) ys h = low-behind n s xs ys (λ q. h (suc q))
low-behind n s (CodeUnit u m ∷ xs) ys h = low-behind n s xs ys (λ q. h (suc q))

pub low-both : (n : ℕ) (s : List ℕ) (xs ys : List Token) → Low n s xs → Low n (unclosed s xs) ys → Low n s (xs ++ ys)
low-both n s [] ys h i p = i p
low-both n s (Open k a m ∷ xs) ys h i zero = h 0
low-both n s (Open k a m ∷ xs) ys h i (suc p) = low-both n (k ∷ s) xs ys (λ q. h (suc q)) i p
low-both n s (Close ∷ xs) ys h i zero = h 0
low-both n s (Close ∷ xs) ys h i (suc p) = low-both n (tail_of s) xs ys (λ q. h (suc q)) i p
low-both n s (Leaf k a m ∷ xs) ys h i zero = h 0
low-both n s (Leaf k a m ∷ xs) ys h i (suc p) = low-both n s xs ys (λ q. h (suc q)) i p
low-both n s (CodeUnit u m ∷ xs) ys h i zero = h 0
low-both n s (CodeUnit u m ∷ xs) ys h i (suc p) = low-both n s xs ys (λ q. h (suc q)) i p

tail-less : (s t : List ℕ) → length s ≤ length t → length (tail_of s) ≤ length (tail_of t)
tail-less [] t h = omega arith
tail-less (k ∷ s) [] h = absurd (omega (arith, h))
tail-less (k ∷ s) (j ∷ t) h = omega (arith, h)

pub less-open : (s t : List ℕ) (ts : List Token) → length s ≤ length t → length (unclosed s ts) ≤ length (unclosed t ts)
less-open s t [] h = h
less-open s t (Open k a m ∷ ts) h = less-open (k ∷ s) (k ∷ t) ts (omega (arith, h))
less-open s t (Close ∷ ts) h = less-open (tail_of s) (tail_of t) ts (tail-less s t h)
less-open s t (Leaf k a m ∷ ts) h = less-open s t ts h
less-open s t (CodeUnit u m ∷ ts) h = less-open s t ts h

-- with fewer nodes open before
pub low-under : (n : ℕ) (s t : List ℕ) (ts : List Token) → length s ≤ length t → Low n t ts → Low n s ts
low-under n s t ts h i p = let l = less-open s t (take p ts) h in omega (arith, l, i p)

pub low-opens : (n : ℕ) (s : List ℕ) (o : List Token) → are_opens o ≡ true → length s + length o ≤ n → Low n s o
low-opens n s [] h i zero = omega (arith, i)
low-opens n s [] h i (suc p) = omega (arith, i)
low-opens n s (Open k a m ∷ o) h i zero = omega (arith, i)
low-opens n s (Open k a m ∷ o) h i (suc p) = low-opens n (k ∷ s) o h (omega (arith, i)) p
low-opens n s (Close ∷ o) h i p = absurd (cc)
low-opens n s (Leaf k a m ∷ o) h i p = absurd (cc)
low-opens n s (CodeUnit u m ∷ o) h i p = absurd (cc)

tail-short : (s : List ℕ) → length (tail_of s) ≤ length s
tail-short [] = omega arith
tail-short (k ∷ s) = omega arith

pub low-closes : (n : ℕ) (s : List ℕ) (c : List Token) → are_closes c ≡ true → length s ≤ n → Low n s c
low-closes n s [] h i zero = i
low-closes n s [] h i (suc p) = i
low-closes n s (Close ∷ c) h i zero = i
low-closes n s (Close ∷ c) h i (suc p) = let l = tail-short s in low-closes n (tail_of s) c h (omega (arith, i, l)) p
low-closes n s (Open k a m ∷ c) h i p = absurd (cc)
low-closes n s (Leaf k a m ∷ c) h i p = absurd (cc)
low-closes n s (CodeUnit u m ∷ c) h i p = absurd (cc)

pub opened : (s : List ℕ) (o : List Token) → are_opens o ≡ true → length (unclosed s o) ≡ length s + length o
opened s [] h = omega arith
opened s (Open k a m ∷ o) h = omega (arith, opened (k ∷ s) o h)
opened s (Close ∷ o) h = absurd (cc)
opened s (Leaf k a m ∷ o) h = absurd (cc)
opened s (CodeUnit u m ∷ o) h = absurd (cc)

-- at the end
pub low-end : (n : ℕ) (s : List ℕ) (ts : List Token) → Low n s ts → length (unclosed s ts) ≤ n
low-end n s [] h = h 0
low-end n s (Open k a m ∷ ts) h = low-end n (k ∷ s) ts (λ q. h (suc q))
low-end n s (Close ∷ ts) h = low-end n (tail_of s) ts (λ q. h (suc q))
low-end n s (Leaf k a m ∷ ts) h = low-end n s ts (λ q. h (suc q))
low-end n s (CodeUnit u m ∷ ts) h = low-end n s ts (λ q. h (suc q))
