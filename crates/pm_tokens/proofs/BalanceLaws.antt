-- Whole numbers of nodes: the test and the relation by cases agree, and the readings over them.
use Rattle.std.specs.Prelude.{◌≡◌, ℕ, ◌+◌, List, [], ◌∷◌, ◌++◌, length, Bool, true}
use Rattle.std.proofs.Common.{zero, suc, refl, ap, sym, ◌∙◌, subst, arith, append_assoc}
use Rattle.pm_tokens.specs.Tokens.{Attrs, Marks, Token, Open, Close, Leaf, CodeUnit}
use Rattle.pm_tokens.specs.Scan.{Opening, Closing, Single, Piece, head_of, tail_of, unclosed, unmet, owned, plain, joins, Balanced, none, leaf, unit, node}
use Rattle.pm_tokens.proofs.ScanLaws.{unclosed-append, unmet-append, unclosed-whole, owned-append, plain-owned, joins-append, unmet-from, Whole}

pub balanced-whole : {ts : List Token} → Balanced ts → Whole ts
balanced-whole none = record { met = refl; ended = refl }
balanced-whole (leaf k a m r) = let w = balanced-whole r in record { met = w.met; ended = w.ended }
balanced-whole (unit u m r) = let w = balanced-whole r in record { met = w.met; ended = w.ended }
balanced-whole (node k a m {inner = inner} {ts = ts} i r) =
    let v = balanced-whole i in
    let w = balanced-whole r in
    let u : unclosed (k ∷ []) inner ≡ k ∷ [] = unclosed-whole (k ∷ []) inner v in
    record {
      met = unmet-append (k ∷ []) inner (Close ∷ ts) ∙ (ap (λ z. unmet 1 inner + unmet (length z) (Close ∷ ts)) u ∙ omega (arith, w.met, v.met, unmet-from 1 inner));
      ended = unclosed-append (k ∷ []) inner (Close ∷ ts) ∙ (ap (λ z. unclosed (tail_of z) ts) u ∙ w.ended);
    }

-- whole nodes up to each of d closes, and after them
abbrev pub Held : ℕ → List Token → Type 0
Held zero ts = Balanced ts
Held (suc d) ts = (inner : List Token) × (rest : List Token) × (ts ≡ inner ++ (Close ∷ rest)) × Balanced inner × Held d rest

held-leaf : (d : ℕ) (k : ℕ) (a : Attrs) (m : Marks) (ts : List Token) → Held d ts → Held d (Leaf k a m ∷ ts)
held-leaf zero k a m ts h = leaf k a m h
held-leaf (suc d) k a m ts h = (Leaf k a m ∷ h.0, h.1, ap (λ z. Leaf k a m ∷ z) h.2, leaf k a m h.3, h.4)

held-unit : (d : ℕ) (u : ℕ) (m : Marks) (ts : List Token) → Held d ts → Held d (CodeUnit u m ∷ ts)
held-unit zero u m ts h = unit u m h
held-unit (suc d) u m ts h = (CodeUnit u m ∷ h.0, h.1, ap (λ z. CodeUnit u m ∷ z) h.2, unit u m h.3, h.4)

held-open : (d : ℕ) (k : ℕ) (a : Attrs) (m : Marks) (ts : List Token) → Held (suc d) ts → Held d (Open k a m ∷ ts)
held-open zero k a m ts h = subst (λ z. Balanced (Open k a m ∷ z)) (sym h.2) (node k a m h.3 h.4)
held-open (suc d) k a m ts h =
    let g = h.4 in (
      Open k a m ∷ (h.0 ++ (Close ∷ g.0)),
      g.1,
      ap (λ z. Open k a m ∷ z) (h.2 ∙ (ap (λ z. h.0 ++ (Close ∷ z)) g.2 ∙ sym (append_assoc h.0 (Close ∷ g.0) (Close ∷ g.1)))),
      node k a m h.3 g.3,
      g.4,
    )

pub held : (s : List ℕ) (ts : List Token) → unmet (length s) ts ≡ 0 → unclosed s ts ≡ [] → Held (length s) ts
held [] [] h e = none
held (k ∷ s) [] h e = absurd (omega (arith, ap length e))
held s (Open k a m ∷ ts) h e = held-open (length s) k a m ts (held (k ∷ s) ts h e)
held [] (Close ∷ ts) h e = absurd (omega (arith, h))
held (k ∷ s) (Close ∷ ts) h e = ([], ts, refl, none, held s ts h e)
held s (Leaf k a m ∷ ts) h e = held-leaf (length s) k a m ts (held s ts h e)
held s (CodeUnit u m ∷ ts) h e = held-unit (length s) u m ts (held s ts h e)

pub whole-balanced : (ts : List Token) → Whole ts → Balanced ts
whole-balanced ts w = held [] ts w.met w.ended

-- a whole number of nodes leaves the open nodes as they were
pub unclosed-balanced : (s : List ℕ) {ts : List Token} → Balanced ts → unclosed s ts ≡ s
unclosed-balanced s none = refl
unclosed-balanced s (leaf k a m r) = unclosed-balanced s r
unclosed-balanced s (unit u m r) = unclosed-balanced s r
unclosed-balanced s (node k a m {inner = inner} {ts = ts} i r) =
    unclosed-append (k ∷ s) inner (Close ∷ ts) ∙ (ap (λ z. unclosed (tail_of z) ts) (unclosed-balanced (k ∷ s) i) ∙ unclosed-balanced s r)

-- the tokens of a node's content and what follows the node
pub owned-inner : (s : List ℕ) (k : ℕ) {inner : List Token} → Balanced inner → (ts : List Token) → owned (k ∷ s) (inner ++ (Close ∷ ts)) ≡ owned (k ∷ s) inner ++ (Closing k ∷ owned s ts)
owned-inner s k {inner = inner} i ts =
    owned-append (k ∷ s) inner (Close ∷ ts) ∙ ap (λ z. owned (k ∷ s) inner ++ (Closing (head_of z) ∷ owned (tail_of z) ts)) (unclosed-balanced (k ∷ s) i)

-- the owners inside a whole number of nodes do not depend on what is around
pub owned-balanced : (s t : List ℕ) {ts : List Token} → Balanced ts → owned s ts ≡ owned t ts
owned-balanced s t none = refl
owned-balanced s t (leaf k a m r) = ap (λ z. Single k a m ∷ z) (owned-balanced s t r)
owned-balanced s t (unit u m r) = ap (λ z. Piece u m ∷ z) (owned-balanced s t r)
owned-balanced s t (node k a m {inner = inner} {ts = ts} i r) =
    ap (λ z. Opening k a m ∷ z) (owned-inner s k i ts ∙ (ap (λ z. z ++ (Closing k ∷ owned s ts)) (owned-balanced (k ∷ s) (k ∷ t) i) ∙ (ap (λ z. owned (k ∷ t) inner ++ (Closing k ∷ z)) (owned-balanced s t r) ∙ sym (owned-inner t k i ts))))

pub balanced-append : {xs ys : List Token} → Balanced xs → Balanced ys → Balanced (xs ++ ys)
balanced-append none q = q
balanced-append (leaf k a m r) q = leaf k a m (balanced-append r q)
balanced-append (unit u m r) q = unit u m (balanced-append r q)
balanced-append {ys = ys} (node k a m {inner = inner} {ts = ts} i r) q = rw (append_assoc inner (Close ∷ ts) ys) (node k a m i (balanced-append r q))

pub joins-balanced : (c : ℕ → ℕ → Bool) → ((k : ℕ) → c k k ≡ true) → (s t : List ℕ) {ts : List Token} → Balanced ts → joins c s (owned t ts) ≡ true
joins-balanced c h s t none = refl
joins-balanced c h s t (leaf k a m r) = joins-balanced c h s t r
joins-balanced c h s t (unit u m r) = joins-balanced c h s t r
joins-balanced c h s t (node k a m {inner = inner} {ts = ts} i r) =
    let own = owned (k ∷ t) inner in
    let back : unclosed (k ∷ s) (plain own) ≡ k ∷ s = rw (plain-owned (k ∷ t) inner) (unclosed-balanced (k ∷ s) i) in
    rw (owned-inner t k i ts, joins-append c (k ∷ s) own (Closing k ∷ owned t ts), joins-balanced c h (k ∷ s) (k ∷ t) i, back, h k) (joins-balanced c h s t r)
