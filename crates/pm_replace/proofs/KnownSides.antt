-- The opens with which a content begins, node by node.
use Rattle.std.specs.Prelude.{◌≡◌, ℕ, ◌-◌, ◌<◌, Bool, true, ◌&&◌, List, [], ◌∷◌, ◌++◌, length, take, get_or}
use Rattle.std.specs.List.{list_all}
use Rattle.std.specs.declared.sync.Arc.{Arc}
use Rattle.std.specs.Arc.{arc_value}
use Rattle.std.proofs.Common.{zero, suc, refl, ap, sym, ◌∙◌, arith, append_assoc}
use Rattle.pm_tokens.specs.Tokens.{Attrs, Marks, Token, Open, Close, Leaf, CodeUnit}
use Rattle.pm_tokens.specs.Schemas.{Schema}
use Rattle.pm_node.specs.declared.node.Node.{Node}
use Rattle.pm_node.specs.declared.node.Body.TheVariants.{Children}
use Rattle.pm_node.specs.Trees.{node_tokens, list_tokens}
use Rattle.pm_node.proofs.TreeLaws.{node_tokens_at}
use Rattle.pm_tokens.proofs.PairLaws.{true-false}
use Rattle.pm_slice.specs.Sides.{opens_first}
use Rattle.pm_slice.proofs.SpineLaws.{opens-none}
use Rattle.pm_meaning.specs.Known.{knows_open}

take-inner : (d : ℕ) (inner rest : List Token) → opens_first d inner ≡ true → take d (inner ++ rest) ≡ take d inner
take-inner zero inner rest h = refl
take-inner (suc d) [] rest h = absurd (cc)
take-inner (suc d) (Open k a m ∷ inner) rest h = ap (λ z. Open k a m ∷ z) (take-inner d inner rest h)
take-inner (suc d) (Close ∷ inner) rest h = absurd (cc)
take-inner (suc d) (Leaf k a m ∷ inner) rest h = absurd (cc)
take-inner (suc d) (CodeUnit u m ∷ inner) rest h = absurd (cc)

abbrev pub known : Schema → ℕ → List Token → Bool
known s d ts = list_all (knows_open s) (take d ts)

node-known : (s : Schema) (d k : ℕ) (a : Attrs) (m : Marks) (inner rest : List Token) → 0 < d → opens_first (d - 1) inner ≡ true
    → known s d ((Open k a m ∷ (inner ++ (Close ∷ []))) ++ rest) ≡ (knows_open s (Open k a m) && known s (d - 1) inner)
node-known s zero k a m inner rest h o = absurd (omega (arith, h))
node-known s (suc d) k a m inner rest h o =
    let e : suc d - 1 ≡ d = omega arith in
    rw e (ap (λ z. knows_open s (Open k a m) && list_all (knows_open s) z) (ap (take d) (append_assoc inner (Close ∷ []) rest) ∙ take-inner d inner (Close ∷ rest) (ap (λ n. opens_first n inner) (sym e) ∙ o)))

module _ {Z : Type 0} (s : Schema) (d : ℕ) (some : 0 < d) where
  -- the first node, and then those within it
  pub children-known : (xs : List (Arc Node Z)) (x : Arc Node Z) (inner : List Token) → 0 < length xs → x ≡ get_or xs 0 x → (arc_value x).body ≡ Children inner → opens_first (d - 1) inner ≡ true
      → known s d (list_tokens xs) ≡ (knows_open s (Open (arc_value x).kind (arc_value x).attrs (arc_value x).marks) && known s (d - 1) inner)
  children-known [] x inner l r is o = absurd (omega (arith, l))
  children-known (y ∷ xs) x inner l r is o =
      let n = arc_value x in
      ap (λ (z : Arc Node Z). known s d (node_tokens (arc_value z) ++ list_tokens xs)) (sym r)
      ∙ (ap (λ ts. known s d (ts ++ list_tokens xs)) (node_tokens_at n (Children inner) is) ∙ node-known s d n.kind n.attrs n.marks inner (list_tokens xs) some o)

-- a content that begins with opens has a node
pub children-some : {Z : Type 0} (d : ℕ) (xs : List (Arc Node Z)) (ts : List Token) → 0 < d → list_tokens xs ≡ ts → opens_first d ts ≡ true → 0 < length xs
children-some d xs ts some e h =
    let none : length xs ≡ 0 → ⊥ = λ n. true-false (opens_first d ts) h (ap (opens_first d) (sym e) ∙ opens-none d some xs n) in
    omega (arith, none)
