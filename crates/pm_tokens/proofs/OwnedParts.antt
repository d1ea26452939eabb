-- Parts of the tokens of nodes, with the owners of the closes, node by node.
use Rattle.std.specs.Prelude.{◌≡◌, ℕ, ◌+◌, ◌-◌, ◌≤◌, ◌<◌, min, Bool, true, List, [], ◌∷◌, ◌++◌, length, take, drop}
use Rattle.std.proofs.Common.{zero, suc, inl, inr, refl, ap, sym, ◌∙◌, arith, append_assoc, length-take, length-drop}
use Rattle.std.proofs.lemmas.List.{take_min, take-append-drop}
use Rattle.std.proofs.lemmas.Bool.{cases_lt, and_parts}
use Rattle.pm_tokens.specs.Tokens.{Attrs, Marks, Token, Open, Close, Leaf, CodeUnit}
use Rattle.pm_tokens.specs.Scan.{Owned, Opening, Closing, Piece, unclosed, unmet, owned, plain, joins, part, Balanced}
use Rattle.pm_tokens.specs.Kids.{text_tokens}
use Rattle.pm_tokens.proofs.ListLaws.{part-append, part_past, part_none}
use Rattle.pm_tokens.proofs.ScanLaws.{owned-append, length-owned, unmet-append, unmet-from, level}
use Rattle.pm_tokens.proofs.BalanceLaws.{balanced-whole, unclosed-balanced, owned-inner, owned-balanced}

pub length-part : {A : Type 0} (f t : ℕ) (xs : List A) → length (part f t xs) ≡ min (t - f) (length xs - f)
length-part f t xs = length-take (t - f) (drop f xs) ∙ ap (λ n. min (t - f) n) (length-drop f xs)

-- a part ends with its list
pub part_min : {A : Type 0} (f t : ℕ) (xs : List A) → part f (min (length xs) t) xs ≡ part f t xs
part_min f t xs =
    let e : min (length xs) t - f ≡ min (t - f) (length (drop f xs)) = omega (arith, length-drop f xs) in
    ap (λ n. take n (drop f xs)) e ∙ take_min (t - f) (drop f xs)

-- the ends of a part may be moved into the list
pub part_clip : {A : Type 0} (f t : ℕ) (xs : List A) → f < t → part (min (min (length xs) t) f) (min (length xs) t) xs ≡ part f t xs
part_clip f t xs h = elim (cases_lt (length xs) f) [
  | inl p ↦ part_none (min (min (length xs) t) f) (min (length xs) t) xs (omega arith) ∙ sym (part_past f t xs (omega arith))
  | inr p ↦ (let e : min (min (length xs) t) f ≡ f = omega arith in ap (λ n. part n (min (length xs) t) xs) e ∙ part_min f t xs)
]

-- a part of one token
pub part-one : {A : Type 0} (f t : ℕ) (x : A) → f < t → part f t (x ∷ []) ≡ part f (f + 1) (x ∷ [])
part-one f t x h =
    let e : min (length (x ∷ [])) t ≡ min (length (x ∷ [])) (f + 1) = omega arith in
    sym (part_min f t (x ∷ [])) ∙ (ap (λ n. part f n (x ∷ [])) e ∙ part_min f (f + 1) (x ∷ []))

-- one more node
pub owned-more : (xs ys : List Token) → Balanced xs → owned [] (xs ++ ys) ≡ owned [] xs ++ owned [] ys
owned-more xs ys b = owned-append [] xs ys ∙ ap (λ s. owned [] xs ++ owned s ys) (unclosed-balanced [] b)

pub part-more : (f t : ℕ) (xs ys : List Token) → Balanced xs → part f t (owned [] (xs ++ ys)) ≡ part f t (owned [] xs) ++ part (f - length xs) (t - length xs) (owned [] ys)
part-more f t xs ys b =
    ap (part f t) (owned-more xs ys b)
    ∙ (part-append f t (owned [] xs) (owned [] ys) ∙ ap (λ n. part f t (owned [] xs) ++ part (f - n) (t - n) (owned [] ys)) (length-owned [] xs))

-- of a node with content: of its open, of its content, and of its close
pub part_node : (f t k : ℕ) (a : Attrs) (m : Marks) (inner : List Token) → Balanced inner
    → part f t (owned [] (Open k a m ∷ (inner ++ (Close ∷ [])))) ≡ (part f t (Opening k a m ∷ []) ++ part (f - 1) (t - 1) (owned [] inner)) ++ part (f - 1 - length inner) (t - 1 - length inner) (Closing k ∷ [])
part_node f t k a m inner b =
    let mid = owned [] inner in
    let own : owned (k ∷ []) (inner ++ (Close ∷ [])) ≡ mid ++ (Closing k ∷ []) = owned-inner [] k b [] ∙ ap (λ z. z ++ (Closing k ∷ [])) (owned-balanced (k ∷ []) [] b) in
    ap (λ z. part f t (Opening k a m ∷ z)) own
    ∙ (part-append f t (Opening k a m ∷ []) (mid ++ (Closing k ∷ []))
    ∙ (ap (λ z. part f t (Opening k a m ∷ []) ++ z) (part-append (f - 1) (t - 1) mid (Closing k ∷ []) ∙ ap (λ n. part (f - 1) (t - 1) mid ++ part (f - 1 - n) (t - 1 - n) (Closing k ∷ [])) (length-owned [] inner))
    ∙ sym (append_assoc (part f t (Opening k a m ∷ [])) (part (f - 1) (t - 1) mid) (part (f - 1 - length inner) (t - 1 - length inner) (Closing k ∷ [])))))

-- of a text: its units
abbrev pub pieces : Marks → List ℕ → List Owned
pieces m [] = []
pieces m (u ∷ us) = Piece u m ∷ pieces m us

pub owned-text : (s : List ℕ) (m : Marks) (us : List ℕ) → owned s (text_tokens m us) ≡ pieces m us
owned-text s m [] = refl
owned-text s m (u ∷ us) = ap (λ z. Piece u m ∷ z) (owned-text s m us)

pub pieces-take : (n : ℕ) (m : Marks) (us : List ℕ) → take n (pieces m us) ≡ pieces m (take n us)
pieces-take zero m us = refl
pieces-take (suc n) m [] = refl
pieces-take (suc n) m (u ∷ us) = ap (λ z. Piece u m ∷ z) (pieces-take n m us)

pub pieces-drop : (n : ℕ) (m : Marks) (us : List ℕ) → drop n (pieces m us) ≡ pieces m (drop n us)
pieces-drop zero m us = refl
pieces-drop (suc n) m [] = refl
pieces-drop (suc n) m (u ∷ us) = pieces-drop n m us

pub part-text : (f t : ℕ) (m : Marks) (us : List ℕ) → part f t (owned [] (text_tokens m us)) ≡ pieces m (part f t us)
part-text f t m us = ap (part f t) (owned-text [] m us) ∙ (ap (take (t - f)) (pieces-drop f m us) ∙ pieces-take (t - f) m (drop f us))

pub joins-pieces : (c : ℕ → ℕ → Bool) (s : List ℕ) (m : Marks) (us : List ℕ) → joins c s (pieces m us) ≡ true
joins-pieces c s m [] = refl
joins-pieces c s m (u ∷ us) = joins-pieces c s m us

pub plain-pieces : (m : Marks) (us : List ℕ) → plain (pieces m us) ≡ text_tokens m us
plain-pieces m [] = refl
plain-pieces m (u ∷ us) = ap (λ z. CodeUnit u m ∷ z) (plain-pieces m us)

-- a part of an open joins anywhere
pub open-joins : (c : ℕ → ℕ → Bool) (s : List ℕ) (f k : ℕ) (a : Attrs) (m : Marks) → joins c s (part f (f + 1) (Opening k a m ∷ [])) ≡ true
open-joins c s zero k a m = refl
open-joins c s (suc f) k a m = ap (joins c s) (part_past (suc f) (suc f + 1) (Opening k a m ∷ []) (omega arith))

-- ---- depths

pub depth-under : (k p : ℕ) {ts : List Token} → Balanced ts → length (unclosed (k ∷ []) (take p ts)) ≡ suc (length (unclosed [] (take p ts)))
depth-under k p {ts = ts} b =
    let a = take p ts in
    let met : unmet 0 a ≡ 0 = omega (arith, unmet-append [] a (drop p ts), ap (unmet 0) (take-append-drop p ts), (balanced-whole b).met) in
    omega (arith, met, unmet-from 1 a, level (k ∷ []) a, level [] a)

pub unclosed-le : (s : List ℕ) (ts : List Token) → length (unclosed s ts) ≤ length s + length ts
unclosed-le s [] = omega arith
unclosed-le s (Open k a m ∷ ts) = omega (arith, unclosed-le (k ∷ s) ts)
unclosed-le [] (Close ∷ ts) = omega (arith, unclosed-le [] ts)
unclosed-le (k ∷ s) (Close ∷ ts) = omega (arith, unclosed-le s ts)
unclosed-le s (Leaf k a m ∷ ts) = omega (arith, unclosed-le s ts)
unclosed-le s (CodeUnit u m ∷ ts) = omega (arith, unclosed-le s ts)
