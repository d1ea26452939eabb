-- Whether a node begins at a position: after whole nodes, in one node, and in its content.
use Rattle.std.specs.Prelude.{◌≡◌, ℕ, ◌+◌, ◌-◌, ◌≤◌, ◌<◌, Bool, true, false, List, [], ◌∷◌, ◌++◌, length, take, drop, get_or}
use Rattle.std.specs.declared.sync.Arc.{Arc}
use Rattle.std.specs.Arc.{arc_value}
use Rattle.std.proofs.Common.{zero, suc, inl, inr, refl, ap, ◌∙◌, arith, length-append}
use Rattle.std.proofs.lemmas.Bool.{cases_lt}
use Rattle.std.proofs.lemmas.List.{take_all, drop_all}
use Rattle.pm_tokens.specs.Tokens.{Marks, Token, Open, Close, Leaf, CodeUnit}
use Rattle.pm_tokens.specs.Kids.{text_tokens}
use Rattle.pm_tokens.proofs.ListLaws.{drop-nil}
use Rattle.pm_meaning.specs.Marked.{starts_node}
use Rattle.pm_node.specs.declared.node.Node.{Node}
use Rattle.pm_node.specs.declared.node.Body.TheVariants.{Text, Leaf as Childless, Children}
use Rattle.pm_node.specs.Trees.{node_tokens, list_tokens}
use Rattle.pm_node.specs.Among.{Stands}
use Rattle.pm_node.proofs.TreeLaws.{node_tokens_at}
use Rattle.pm_node.proofs.WalkLaws.{list-split}

abbrev pub begins_at : List Token → ℕ → Bool
begins_at ts p = starts_node (drop p ts)

pub begins-behind : (xs ys : List Token) (r : ℕ) → length xs ≤ r → begins_at (xs ++ ys) r ≡ begins_at ys (r - length xs)
begins-behind [] ys r h = ap (begins_at ys) (let e : r ≡ r - 0 = omega arith in e)
begins-behind (x ∷ xs) ys zero h = absurd (omega (arith, h))
begins-behind (x ∷ xs) ys (suc r) h = begins-behind xs ys r (omega (arith, h)) ∙ ap (begins_at ys) (let e : r - length xs ≡ suc r - suc (length xs) = omega arith in e)

pub begins-at-first : (xs ys : List Token) (r : ℕ) → r < length xs → begins_at (xs ++ ys) r ≡ begins_at xs r
begins-at-first [] ys r h = absurd (omega (arith, h))
begins-at-first (Open k a m ∷ xs) ys zero h = refl
begins-at-first (Close ∷ xs) ys zero h = refl
begins-at-first (Leaf k a m ∷ xs) ys zero h = refl
begins-at-first (CodeUnit u m ∷ xs) ys zero h = refl
begins-at-first (x ∷ xs) ys (suc r) h = begins-at-first xs ys r (omega (arith, h))

-- ---- in a node with content

pub begins-inside : (n : Node) (inner : List Token) (pos : ℕ) → n.body ≡ Children inner → 0 < pos → pos ≤ length inner + 1 → begins_at (node_tokens n) pos ≡ begins_at inner (pos - 1)
begins-inside n inner zero is h le = absurd (omega (arith, h))
begins-inside n inner (suc p) is h le =
    ap (λ z. begins_at z (suc p)) (node_tokens_at n (Children inner) is) ∙ (close inner p (omega (arith, le)) ∙ ap (begins_at inner) (let e : p ≡ suc p - 1 = omega arith in e))
  where
    close : (xs : List Token) (q : ℕ) → q ≤ length xs → begins_at (xs ++ (Close ∷ [])) q ≡ begins_at xs q
    close [] zero k = refl
    close [] (suc q) k = absurd (omega (arith, k))
    close (Open k a m ∷ xs) zero h = refl
    close (Close ∷ xs) zero h = refl
    close (Leaf k a m ∷ xs) zero h = refl
    close (CodeUnit u m ∷ xs) zero h = refl
    close (x ∷ xs) (suc q) k = close xs q (omega (arith, k))

pub begins-outside : (n : Node) (inner : List Token) (pos : ℕ) → n.body ≡ Children inner → pos < length (node_tokens n) → length inner < pos → begins_at (node_tokens n) pos ≡ false
begins-outside n inner pos is lt gt =
    let ts : node_tokens n ≡ (Open n.kind n.attrs n.marks ∷ inner) ++ (Close ∷ []) = node_tokens_at n (Children inner) is in
    let at : pos ≡ length (Open n.kind n.attrs n.marks ∷ inner) = omega (arith, gt, lt, ap length ts, length-append (Open n.kind n.attrs n.marks ∷ inner) (Close ∷ [])) in
    ap (λ z. begins_at z pos) ts ∙ (begins-behind (Open n.kind n.attrs n.marks ∷ inner) (Close ∷ []) pos (omega (arith, at)) ∙ ap (begins_at (Close ∷ [])) (let e : pos - length (Open n.kind n.attrs n.marks ∷ inner) ≡ 0 = omega (arith, at) in e))

pub begins-open : (n : Node) (inner : List Token) (pos : ℕ) → n.body ≡ Children inner → pos ≡ 0 → begins_at (node_tokens n) pos ≡ true
begins-open n inner pos is z = ap (λ p. begins_at (node_tokens n) p) z ∙ ap (λ ts. begins_at ts 0) (node_tokens_at n (Children inner) is)

-- ---- in a text or a leaf

units-none : (m : Marks) (us : List ℕ) (pos : ℕ) → begins_at (text_tokens m us) pos ≡ false
units-none m [] pos = ap starts_node (drop-nil pos)
units-none m (u ∷ us) zero = refl
units-none m (u ∷ us) (suc p) = units-none m us p

pub begins-text : (n : Node) (us : List ℕ) (pos : ℕ) → n.body ≡ Text us → begins_at (node_tokens n) pos ≡ false
begins-text n us pos is = ap (λ ts. begins_at ts pos) (node_tokens_at n (Text us) is) ∙ units-none n.marks us pos

pub begins-leaf : (n : Node) (pos : ℕ) → n.body ≡ Childless → pos < length (node_tokens n) → begins_at (node_tokens n) pos ≡ true
begins-leaf n pos is lt =
    let z : pos ≡ 0 = omega (arith, lt, ap length (node_tokens_at n Childless is)) in
    ap (λ p. begins_at (node_tokens n) p) z ∙ ap (λ ts. begins_at ts 0) (node_tokens_at n Childless is)

-- ---- among children

-- a position before the end is in a child
pub stands-in : {Z : Type 0} {xs : List (Arc Node Z)} {pos i r : ℕ} → Stands xs pos i r → pos < length (list_tokens xs) → i < length xs
stands-in {xs = xs} {pos = pos} {i = i} {r = r} w h = elim (cases_lt i (length xs)) [
  | inl p ↦ p
  | inr p ↦ (let e : i ≡ length xs = omega (arith, p, w.within) in absurd (omega (arith, h, w.offset, w.at_end e, ap (λ z. length (list_tokens z)) (take_all i xs (omega (arith, p))))))
]

pub begins-among : {Z : Type 0} (xs : List (Arc Node Z)) (pos i r : ℕ) (x : Arc Node Z) → Stands xs pos i r → i < length xs → x ≡ get_or xs i x → begins_at (list_tokens xs) pos ≡ begins_at (node_tokens (arc_value x)) r
begins-among xs pos i r x w h g =
    let a = list_tokens (take i xs) in
    let ts = node_tokens (arc_value x) in
    let rest = list_tokens (drop (i + 1) xs) in
    let e : pos - length a ≡ r = omega (arith, w.offset) in
    ap (λ z. begins_at z pos) (list-split xs i x h g) ∙ (begins-behind a (ts ++ rest) pos (omega (arith, w.offset)) ∙ (ap (begins_at (ts ++ rest)) e ∙ begins-at-first ts rest r (w.inside x h g)))

-- ---- past the end

pub begins-end : (ts : List Token) (pos : ℕ) → length ts ≤ pos → begins_at ts pos ≡ false
begins-end ts pos h = ap starts_node (drop_all pos ts h)
