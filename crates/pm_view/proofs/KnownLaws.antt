-- Parts of the tokens of nodes, where each close knows its node.
use Rattle.std.specs.Prelude.{◌≡◌, ℕ, ◌-◌, ◌≤◌, List, [], ◌∷◌, ◌++◌, length, take, drop}
use Rattle.std.proofs.Common.{zero, suc, refl, ap, sym, ◌∙◌, arith, append_assoc, length-take, length-drop}
use Rattle.pm_tokens.specs.Tokens.{Marks, Token, Open, Close, Leaf, CodeUnit}
use Rattle.pm_tokens.specs.Scan.{part, Balanced, none, leaf, unit, node}
use Rattle.pm_tokens.specs.Kids.{text_tokens}
use Rattle.pm_view.specs.Known.{Head, head, Known, Opening, Closing, Single, Piece, outer, known, tokens_of, pieces}
use Rattle.pm_view.specs.Views.{viewed}

pub length-known : (s : List Head) (ts : List Token) → length (known s ts) ≡ length ts
length-known s [] = refl
length-known s (Open k a m ∷ ts) = ap suc (length-known (head k a m ∷ s) ts)
length-known s (Close ∷ ts) = ap suc (length-known (outer s) ts)
length-known s (Leaf k a m ∷ ts) = ap suc (length-known s ts)
length-known s (CodeUnit u m ∷ ts) = ap suc (length-known s ts)

-- what the closes know changes no token, also of a part
pub tokens-known : (s : List Head) (ts : List Token) → tokens_of (known s ts) ≡ ts
tokens-known s [] = refl
tokens-known s (Open k a m ∷ ts) = ap (λ z. Open k a m ∷ z) (tokens-known (head k a m ∷ s) ts)
tokens-known s (Close ∷ ts) = ap (λ z. Close ∷ z) (tokens-known (outer s) ts)
tokens-known s (Leaf k a m ∷ ts) = ap (λ z. Leaf k a m ∷ z) (tokens-known s ts)
tokens-known s (CodeUnit u m ∷ ts) = ap (λ z. CodeUnit u m ∷ z) (tokens-known s ts)

tokens-take : (n : ℕ) (ts : List Known) → tokens_of (take n ts) ≡ take n (tokens_of ts)
tokens-take zero ts = refl
tokens-take (suc n) [] = refl
tokens-take (suc n) (Opening h ∷ ts) = ap (λ z. Open h.kind h.attrs h.marks ∷ z) (tokens-take n ts)
tokens-take (suc n) (Closing h ∷ ts) = ap (λ z. Close ∷ z) (tokens-take n ts)
tokens-take (suc n) (Single h ∷ ts) = ap (λ z. Leaf h.kind h.attrs h.marks ∷ z) (tokens-take n ts)
tokens-take (suc n) (Piece u m ∷ ts) = ap (λ z. CodeUnit u m ∷ z) (tokens-take n ts)

tokens-drop : (n : ℕ) (ts : List Known) → tokens_of (drop n ts) ≡ drop n (tokens_of ts)
tokens-drop zero ts = refl
tokens-drop (suc n) [] = refl
tokens-drop (suc n) (Opening h ∷ ts) = tokens-drop n ts
tokens-drop (suc n) (Closing h ∷ ts) = tokens-drop n ts
tokens-drop (suc n) (Single h ∷ ts) = tokens-drop n ts
tokens-drop (suc n) (Piece u m ∷ ts) = tokens-drop n ts

pub tokens-viewed : (ts : List Token) (from to : ℕ) → tokens_of (viewed ts from to) ≡ part from to ts
tokens-viewed ts from to =
    tokens-take (to - from) (drop from (known [] ts)) ∙ (ap (take (to - from)) (tokens-drop from (known [] ts)) ∙ ap (λ z. take (to - from) (drop from z)) (tokens-known [] ts))

-- whole nodes know nothing of what is around them
pub known-balanced : {ts : List Token} → Balanced ts → (s : List Head) (us : List Token) → known s (ts ++ us) ≡ known [] ts ++ known s us
known-balanced none s us = refl
known-balanced (leaf k a m b) s us = ap (λ z. Single (head k a m) ∷ z) (known-balanced b s us)
known-balanced (unit u m b) s us = ap (λ z. Piece u m ∷ z) (known-balanced b s us)
known-balanced (node k a m {inner = inner} {ts = ts} b c) s us =
    let h = head k a m in
    let left : known (h ∷ s) ((inner ++ (Close ∷ ts)) ++ us) ≡ known [] inner ++ (Closing h ∷ (known [] ts ++ known s us)) =
    ap (known (h ∷ s)) (append_assoc inner (Close ∷ ts) us) ∙ (known-balanced b (h ∷ s) (Close ∷ (ts ++ us)) ∙ ap (λ z. known [] inner ++ (Closing h ∷ z)) (known-balanced c s us)) in
    let right : known (h ∷ []) (inner ++ (Close ∷ ts)) ++ known s us ≡ known [] inner ++ (Closing h ∷ (known [] ts ++ known s us)) =
    ap (λ z. z ++ known s us) (known-balanced b (h ∷ []) (Close ∷ ts)) ∙ append_assoc (known [] inner) (Closing h ∷ known [] ts) (known s us) in
    ap (λ z. Opening h ∷ z) (left ∙ sym right)

-- of a text: its units
pub known-text : (s : List Head) (m : Marks) (us : List ℕ) → known s (text_tokens m us) ≡ pieces m us
known-text s m [] = refl
known-text s m (u ∷ us) = ap (λ z. Piece u m ∷ z) (known-text s m us)

pub pieces-take : (n : ℕ) (m : Marks) (us : List ℕ) → take n (pieces m us) ≡ pieces m (take n us)
pieces-take zero m us = refl
pieces-take (suc n) m [] = refl
pieces-take (suc n) m (u ∷ us) = ap (λ z. Piece u m ∷ z) (pieces-take n m us)

pub pieces-drop : (n : ℕ) (m : Marks) (us : List ℕ) → drop n (pieces m us) ≡ pieces m (drop n us)
pieces-drop zero m us = refl
pieces-drop (suc n) m [] = refl
pieces-drop (suc n) m (u ∷ us) = pieces-drop n m us

-- ---- sizes

pub viewed-length : (ts : List Token) (f t : ℕ) → t ≤ length ts → length (viewed ts f t) ≡ t - f
viewed-length ts f t h = omega (arith, h, length-take (t - f) (drop f (known [] ts)), length-drop f (known [] ts), length-known [] ts)
