-- The slice of a view is the cut.
use Rattle.std.specs.Prelude.{◌≡◌, ℕ, zero, suc, ◌-◌, ◌≤◌, List, [], ◌∷◌, ◌++◌, length, take, drop, map}
use Rattle.std.proofs.Common.{refl, ap, sym, ◌∙◌, arith, length-take}
use Rattle.std.proofs.lemmas.List.{length-map}
use Rattle.pm_tokens.specs.Tokens.{Token, Open, Close, Leaf, CodeUnit}
use Rattle.pm_tokens.specs.Scan.{Balanced, unclosed, unmet, around, part}
use Rattle.pm_tokens.specs.Slices.{cut}
use Rattle.pm_tokens.proofs.BalanceLaws.{balanced-whole}
use Rattle.pm_tokens.proofs.CutLaws.{around-length, front-met}
use Rattle.pm_tokens.proofs.PartLaws.{split-at}
use Rattle.pm_tokens.proofs.ScanLaws.{unmet-from}
use Rattle.pm_view.specs.Known.{Head, head, Opening, Closing, Single, Piece, outer, known, tokens_of}
use Rattle.pm_view.specs.Views.{viewed}
use Rattle.pm_view.specs.Sliced.{open_of, opens_before, slice_with, sliced}
use Rattle.pm_view.proofs.KnownLaws.{tokens-viewed}

-- the nodes that are open after the tokens, the innermost first
abbrev pub heads : List Head → List Token → List Head
heads s [] = s
heads s (Open k a m ∷ ts) = heads (head k a m ∷ s) ts
heads s (Close ∷ ts) = heads (outer s) ts
heads s (Leaf k a m ∷ ts) = heads s ts
heads s (CodeUnit u m ∷ ts) = heads s ts

heads-around : (s : List Head) (ts : List Token) → map open_of (heads s ts) ≡ around (map open_of s) ts
heads-around s [] = refl
heads-around s (Open k a m ∷ ts) = heads-around (head k a m ∷ s) ts
heads-around [] (Close ∷ ts) = heads-around [] ts
heads-around (h ∷ s) (Close ∷ ts) = heads-around s ts
heads-around s (Leaf k a m ∷ ts) = heads-around s ts
heads-around s (CodeUnit u m ∷ ts) = heads-around s ts

known-take : (n : ℕ) (s : List Head) (ts : List Token) → take n (known s ts) ≡ known s (take n ts)
known-take zero s ts = refl
known-take (suc n) s [] = refl
known-take (suc n) s (Open k a m ∷ ts) = ap (λ z. Opening (head k a m) ∷ z) (known-take n (head k a m ∷ s) ts)
known-take (suc n) [] (Close ∷ ts) = ap (λ z. Closing (head 0 [] []) ∷ z) (known-take n [] ts)
known-take (suc n) (h ∷ s) (Close ∷ ts) = ap (λ z. Closing h ∷ z) (known-take n s ts)
known-take (suc n) s (Leaf k a m ∷ ts) = ap (λ z. Single (head k a m) ∷ z) (known-take n s ts)
known-take (suc n) s (CodeUnit u m ∷ ts) = ap (λ z. Piece u m ∷ z) (known-take n s ts)

known-drop : (n : ℕ) (s : List Head) (ts : List Token) → drop n (known s ts) ≡ known (heads s (take n ts)) (drop n ts)
known-drop zero s ts = refl
known-drop (suc n) s [] = refl
known-drop (suc n) s (Open k a m ∷ ts) = known-drop n (head k a m ∷ s) ts
known-drop (suc n) s (Close ∷ ts) = known-drop n (outer s) ts
known-drop (suc n) s (Leaf k a m ∷ ts) = known-drop n s ts
known-drop (suc n) s (CodeUnit u m ∷ ts) = known-drop n s ts

-- where the nodes i, and around them those of s, are open before
opens-known : (i s : List Head) (ts : List Token) → unmet (length i) ts ≤ length s → opens_before (length i) (known (i ++ s) ts) ≡ take (unmet (length i) ts) (map open_of s)
opens-known i s [] h = refl
opens-known i s (Open k a m ∷ ts) h = opens-known (head k a m ∷ i) s ts h
opens-known [] [] (Close ∷ ts) h = absurd (omega (arith, h))
opens-known [] (n ∷ s) (Close ∷ ts) h = ap (λ z. open_of n ∷ z) (opens-known [] s ts (omega (arith, h)))
opens-known (n ∷ i) s (Close ∷ ts) h = opens-known i s ts h
opens-known i s (Leaf k a m ∷ ts) h = opens-known i s ts h
opens-known i s (CodeUnit u m ∷ ts) h = opens-known i s ts h

viewed-known : (ts : List Token) (from to : ℕ) → viewed ts from to ≡ known (heads [] (take from ts)) (part from to ts)
viewed-known ts from to = ap (take (to - from)) (known-drop from [] ts) ∙ known-take (to - from) (heads [] (take from ts)) (drop from ts)

-- the part closes no more nodes than are open before it
closes-met : (ts : List Token) (from to : ℕ) → Balanced ts → from ≤ to → to ≤ length ts → unmet 0 (part from to ts) ≤ length (unclosed [] (take from ts))
closes-met ts from to b h i =
    let a = take from ts in
    let x = part from to ts in
    let met : unmet 0 (a ++ (x ++ drop to ts)) ≡ 0 = ap (unmet 0) (sym (split-at ts from to h i).is) ∙ (balanced-whole b).met in
    let m = front-met a x (drop to ts) met in
    omega (arith, m.1, unmet-from (length (unclosed [] a)) x)

pub sliced-viewed : (ts : List Token) (from to : ℕ) → Balanced ts → from ≤ to → to ≤ length ts → sliced (viewed ts from to) ≡ cut ts from to
sliced-viewed ts from to b h i =
    let s = heads [] (take from ts) in
    let x = part from to ts in
    let n = unmet 0 x in
    let opened : map open_of s ≡ around [] (take from ts) = heads-around [] (take from ts) in
    let count : length (map open_of s) ≡ length (unclosed [] (take from ts)) = ap length opened ∙ around-length [] [] (take from ts) refl in
    let room : n ≤ length s = omega (arith, count, closes-met ts from to b h i, length-map s open_of) in
    let opens : opens_before 0 (viewed ts from to) ≡ take n (around [] (take from ts)) =
    ap (opens_before 0) (viewed-known ts from to) ∙ (opens-known [] s x room ∙ ap (take n) opened) in
    let start : length (opens_before 0 (viewed ts from to)) ≡ n = omega (arith, ap length opens, length-take n (around [] (take from ts)), ap length opened, length-map s open_of, room) in
    ap (λ z. slice_with (opens_before 0 (viewed ts from to)) (tokens_of (viewed ts from to)) z) start
    ∙ (ap (λ z. slice_with z (tokens_of (viewed ts from to)) n) opens
    ∙ ap (λ z. slice_with (take n (around [] (take from ts))) z n) (tokens-viewed ts from to))
