-- How deep whole nodes nest.
use Rattle.std.specs.Prelude.{◌≡◌, ℕ, ◌+◌, max, List, [], ◌∷◌, ◌++◌}
use Rattle.std.specs.declared.sync.Arc.{Arc}
use Rattle.std.proofs.Common.{zero, suc, refl, ap, sym, ◌∙◌, arith, append_assoc}
use Rattle.pm_tokens.specs.Tokens.{Attrs, Marks, Token, Open, Close, Leaf, CodeUnit}
use Rattle.pm_tokens.specs.Scan.{Balanced, none, leaf, unit, node, deepest}
use Rattle.pm_tokens.specs.Kids.{text_tokens}
use Rattle.pm_node.specs.declared.node.Node.{Node}
use Rattle.pm_node.specs.declared.node.Body.{Body}
use Rattle.pm_node.specs.declared.node.Body.TheVariants.{Text, Leaf as Childless, Children}
use Rattle.pm_node.specs.Trees.{body_tokens, node_tokens}
use Rattle.pm_node.proofs.TreeLaws.{node_tokens_at}
use Rattle.pm_node.proofs.WalkLaws.{rest, Child}
use Rattle.pm_tokens.proofs.DepthLaws.{deep-low}

leaf-deep : (d k : ℕ) (a : Attrs) (m : Marks) (ts : List Token) → deepest d (Leaf k a m ∷ ts) ≡ deepest d ts
leaf-deep zero k a m ts = refl
leaf-deep (suc d) k a m ts = refl

unit-deep : (d u : ℕ) (m : Marks) (ts : List Token) → deepest d (CodeUnit u m ∷ ts) ≡ deepest d ts
unit-deep zero u m ts = refl
unit-deep (suc d) u m ts = refl

-- after whole nodes one is as deep as before
pub deep-append : (d : ℕ) {xs : List Token} → Balanced xs → (ys : List Token) → deepest d (xs ++ ys) ≡ max (deepest d xs) (deepest d ys)
deep-append d none ys = let h = deep-low d ys in omega arith
deep-append d (leaf k a m {ts = ts} b) ys = leaf-deep d k a m (ts ++ ys) ∙ (deep-append d b ys ∙ ap (λ n. max n (deepest d ys)) (sym (leaf-deep d k a m ts)))
deep-append d (unit u m {ts = ts} b) ys = unit-deep d u m (ts ++ ys) ∙ (deep-append d b ys ∙ ap (λ n. max n (deepest d ys)) (sym (unit-deep d u m ts)))
deep-append d (node k a m {inner = inner} {ts = ts} i b) ys =
    let after : deepest (suc d) ((inner ++ (Close ∷ ts)) ++ ys) ≡ max (deepest (suc d) inner) (max (suc d) (deepest d (ts ++ ys))) =
    ap (deepest (suc d)) (append_assoc inner (Close ∷ ts) ys) ∙ deep-append (suc d) i (Close ∷ (ts ++ ys)) in
    let here : deepest (suc d) (inner ++ (Close ∷ ts)) ≡ max (deepest (suc d) inner) (max (suc d) (deepest d ts)) = deep-append (suc d) i (Close ∷ ts) in
    let rest : deepest d (ts ++ ys) ≡ max (deepest d ts) (deepest d ys) = deep-append d b ys in
    omega (arith, after, here, rest)

-- under one more node everything is one deeper
pub deep-under : (d : ℕ) {xs : List Token} → Balanced xs → deepest (suc d) xs ≡ suc (deepest d xs)
deep-under d none = refl
deep-under d (leaf k a m {ts = ts} b) = deep-under d b ∙ ap suc (sym (leaf-deep d k a m ts))
deep-under d (unit u m {ts = ts} b) = deep-under d b ∙ ap suc (sym (unit-deep d u m ts))
deep-under d (node k a m {inner = inner} {ts = ts} i b) =
    let deeper : deepest (suc (suc d)) (inner ++ (Close ∷ ts)) ≡ max (deepest (suc (suc d)) inner) (max (suc (suc d)) (deepest (suc d) ts)) = deep-append (suc (suc d)) i (Close ∷ ts) in
    let here : deepest (suc d) (inner ++ (Close ∷ ts)) ≡ max (deepest (suc d) inner) (max (suc d) (deepest d ts)) = deep-append (suc d) i (Close ∷ ts) in
    let inside : deepest (suc (suc d)) inner ≡ suc (deepest (suc d) inner) = deep-under (suc d) i in
    let behind : deepest (suc d) ts ≡ suc (deepest d ts) = deep-under d b in
    omega (arith, deeper, here, inside, behind)

-- a node is one level above its content
pub deep-node : (k : ℕ) (a : Attrs) (m : Marks) {inner : List Token} → Balanced inner → deepest 0 (Open k a m ∷ (inner ++ (Close ∷ []))) ≡ suc (deepest 0 inner)
deep-node k a m {inner = inner} i =
    let all : deepest 1 (inner ++ (Close ∷ [])) ≡ max (deepest 1 inner) (max 1 (deepest 0 [])) = deep-append 1 i (Close ∷ []) in
    let up : deepest 1 inner ≡ suc (deepest 0 inner) = deep-under 0 i in
    omega (arith, all, up, deep-low 0 inner)

pub deep-text : (m : Marks) (us : List ℕ) → deepest 0 (text_tokens m us) ≡ 0
deep-text m [] = refl
deep-text m (u ∷ us) = deep-text m us

-- of the children from one on: that one, or one after it
pub deep-child : {Z : Type 0} (xs : List (Arc Node Z)) (i : ℕ) (n : Node) → Child xs i n → deepest 0 (rest xs i) ≡ max (deepest 0 (node_tokens n)) (deepest 0 (rest xs (i + 1)))
deep-child xs i n c = ap (deepest 0) c.tokens ∙ deep-append 0 c.whole (rest xs (i + 1))

pub deep-content : (n : Node) (inner : List Token) → n.body ≡ Children inner → Balanced inner → deepest 0 (node_tokens n) ≡ suc (deepest 0 inner)
deep-content n inner is b = ap (deepest 0) (node_tokens_at n (Children inner) is) ∙ deep-node n.kind n.attrs n.marks b

pub deep-flat : (n : Node) → ((ts : List Token) → n.body ≡ Children ts → ⊥) → deepest 0 (node_tokens n) ≡ 0
deep-flat n f = by n.kind n.attrs n.marks n.body f
  where
    by : (k : ℕ) (a : Attrs) (m : Marks) (b : Body) → ((ts : List Token) → b ≡ Children ts → ⊥) → deepest 0 (body_tokens k a m b) ≡ 0
    by k a m (Text us) f = deep-text m us
    by k a m Childless f = refl
    by k a m (Children ts) f = absurd (f ts refl)
