-- How many nodes are open at most, from a place in the tokens on.
use Rattle.std.specs.Prelude.{◌≡◌, ℕ, ◌≤◌, List, [], ◌∷◌, ◌++◌, length, take}
use Rattle.std.proofs.Common.{zero, suc, refl, arith}
use Rattle.pm_tokens.specs.Tokens.{Marks, Token, Open, Close, Leaf, CodeUnit}
use Rattle.pm_tokens.specs.Scan.{unclosed, deepest}
use Rattle.pm_view.specs.Known.{Known, pieces, tokens_of}

-- no fewer than are open before
pub deepest-least : (d : ℕ) (ts : List Token) → d ≤ deepest d ts
deepest-least d [] = omega arith
deepest-least d (Open k a m ∷ ts) = omega (arith, deepest-least (suc d) ts)
deepest-least zero (Close ∷ ts) = omega arith
deepest-least (suc d) (Close ∷ ts) = omega arith
deepest-least d (Leaf k a m ∷ ts) = deepest-least d ts
deepest-least d (CodeUnit u m ∷ ts) = deepest-least d ts

-- no more than at some place
pub deepest-most : (n : ℕ) (s : List ℕ) (ts : List Token) → ((q : ℕ) → q ≤ length ts → length (unclosed s (take q ts)) ≤ n) → deepest (length s) ts ≤ n
deepest-most n s [] h = h 0 (omega arith)
deepest-most n s (Open k a m ∷ ts) h = deepest-most n (k ∷ s) ts (λ q l. h (suc q) (omega (arith, l)))
deepest-most n [] (Close ∷ ts) h = deepest-most n [] ts (λ q l. h (suc q) (omega (arith, l)))
deepest-most n (k ∷ s) (Close ∷ ts) h = omega (arith, h 0 (omega arith), deepest-most n s ts (λ q l. h (suc q) (omega (arith, l))))
deepest-most n s (Leaf k a m ∷ ts) h = deepest-most n s ts (λ q l. h (suc q) (omega (arith, l)))
deepest-most n s (CodeUnit u m ∷ ts) h = deepest-most n s ts (λ q l. h (suc q) (omega (arith, l)))

-- units open nothing
pub deepest-pieces : (d : ℕ) (m : Marks) (us : List ℕ) (ks : List Known) → deepest d (tokens_of (pieces m us ++ ks)) ≡ deepest d (tokens_of ks)
deepest-pieces d m [] ks = refl
deepest-pieces d m (u ∷ us) ks = deepest-pieces d m us ks
