-- A walk that finds how many nodes are around positions.
use Rattle.std.specs.Prelude.{◌≡◌, ℕ, ◌+◌, ◌-◌, ◌≤◌, ◌<◌, max, List, [], ◌∷◌, ◌++◌, length, take, drop, get_or}
use Rattle.std.specs.declared.sync.Arc.{Arc}
use Rattle.std.specs.Arc.{arc_value}
use Rattle.std.proofs.Common.{zero, suc, inl, inr, ap, ◌∙◌, arith, length-append, length-take, length-drop}
use Rattle.std.proofs.lemmas.Bool.{cases_lt}
use Rattle.std.proofs.lemmas.List.{take-take, drop_all}
use Rattle.std.proofs.Math.Seq.{take-add}
use Rattle.pm_tokens.specs.Tokens.{Token, Close}
use Rattle.pm_tokens.specs.Scan.{unclosed, deepest, depth_at, part, Balanced}
use Rattle.pm_tokens.proofs.ScanLaws.{unclosed-append}
use Rattle.pm_node.specs.declared.node.Node.{Node}
use Rattle.pm_node.specs.declared.node.Body.TheVariants.{Children}
use Rattle.pm_node.specs.Among.{Stands}
use Rattle.pm_node.specs.Trees.{node_tokens, list_tokens, EachWhole}
use Rattle.pm_node.proofs.TreeLaws.{node_tokens_at}
use Rattle.pm_node.proofs.WalkLaws.{front, front-more, list-split}
use Rattle.pm_build.proofs.PositionLaws.{depth-inside, depth-flat}
use Rattle.pm_slice.proofs.ClipWalk.{front-rest}
use Rattle.pm_view.specs.Deep.{NoDeeper, NodeNoDeeper}
use Rattle.pm_view.proofs.ChildLaws.{depth-between, depth-child}
use Rattle.pm_view.proofs.DeepLaws.{deepest-most}

-- of the first i children, which have `at` tokens, the positions were looked at
pub record Looked {Z : Type 0} (xs : List (Arc Node Z)) (i at from to most : ℕ) : Type 0 where
  pub offset : at ≡ length (front xs i)
  pub deep : (p : ℕ) → from ≤ p → p ≤ to → p ≤ at → depth_at (list_tokens xs) p ≤ most

module _ {Z : Type 0} (xs : List (Arc Node Z)) (w : EachWhole xs) (from to : ℕ) where
  pub looked-start : (i r p at : ℕ) → Stands xs p i r → p ≤ from → at ≡ p - r → Looked xs i at from to 0
  looked-start i r p at s h e =
      let o : length (front xs i) + r ≡ p = s.offset in
      record {
        offset = omega (arith, o, e);
        deep = λ q l u b. omega (arith, depth-between xs w i q (omega (arith, o, h, e, l, b)));
      }

  pub looked-more : (i at most here : ℕ) (x : Arc Node Z) → i < length xs → x ≡ get_or xs i x → Looked xs i at from to most → NodeNoDeeper (arc_value x) (from - at) (to - at) here
      → Looked xs (i + 1) (at + length (node_tokens (arc_value x))) from to (max most here)
  looked-more i at most here x h r a d =
      let ts = node_tokens (arc_value x) in
      let o = a.offset in
      let more : length (front xs (i + 1)) ≡ length (front xs i) + length ts = ap length (front-more xs i x h r) ∙ length-append (front xs i) ts in
      record {
        offset = omega (arith, o, more);
        deep = λ p l u b. elim (cases_lt at p) [
          | inr past ↦ (let before = a.deep p l u past in omega (arith, before))
          | inl behind ↦ (elim (cases_lt p (at + length ts)) [
            | inl inner ↦ (
                let e : depth_at (list_tokens xs) p ≡ depth_at ts (p - length (front xs i)) = depth-child xs w i p x h r (omega (arith, o, behind)) (omega (arith, o, inner)) in
                let f : p - length (front xs i) ≡ p - at = omega (arith, o) in
                let g = d (p - at) (omega (arith, l)) (omega (arith, u)) (omega (arith, inner, behind)) in
                omega (arith, e, ap (depth_at ts) f, g))
            | inr edge ↦ (let z = depth-between xs w (i + 1) p (omega (arith, o, more, edge, b)) in omega (arith, z))
          ])
        ];
      }

  pub looked-room : (i at most : ℕ) (x : Arc Node Z) → i < length xs → x ≡ get_or xs i x → Looked xs i at from to most → at + length (node_tokens (arc_value x)) ≤ length (list_tokens xs)
  looked-room i at most x h r a =
      let ts = node_tokens (arc_value x) in
      let behind = list_tokens (drop (i + 1) xs) in
      omega (arith, a.offset, ap length (list-split xs i x h r), length-append (front xs i) (ts ++ behind), length-append ts behind)

  -- nothing of the rest is in the range, or there is no rest
  pub looked-end : (i at most : ℕ) → Looked xs i at from to most → to ≤ at → NoDeeper (list_tokens xs) from to most
  looked-end i at most a h p l u b = a.deep p l u (omega (arith, u, h))

  pub looked-all : (i at most : ℕ) → Looked xs i at from to most → length xs ≤ i → NoDeeper (list_tokens xs) from to most
  looked-all i at most a h p l u b =
      let none : list_tokens (drop i xs) ≡ [] = ap list_tokens (drop_all i xs h) in
      a.deep p l u (omega (arith, a.offset, b, ap length (front-rest xs i), length-append (front xs i) (list_tokens (drop i xs)), ap length none))

pub deeper-inner : (n : Node) (inner : List Token) (from to most : ℕ) → n.body ≡ Children inner → Balanced inner → NoDeeper inner (from - 1) (to - 1) most → NodeNoDeeper n from to (1 + most)
deeper-inner n inner from to most b w d zero l u h = omega arith
deeper-inner n inner from to most b w d (suc p) l u h =
    let e = depth-inside n inner (suc p) b w (omega arith) h in
    let f : suc p - 1 ≡ p = omega arith in
    let size : length (node_tokens n) ≡ suc (length (inner ++ (Close ∷ []))) = ap length (node_tokens_at n (Children inner) b) in
    let g = d p (omega (arith, l)) (omega (arith, u)) (omega (arith, h, size, length-append inner (Close ∷ []))) in
    omega (arith, e, ap (depth_at inner) f, g)

pub deeper-flat : (n : Node) (from to : ℕ) → ((inner : List Token) → n.body ≡ Children inner → ⊥) → NodeNoDeeper n from to 0
deeper-flat n from to b p l u h = omega (arith, depth-flat n p b)

-- what no position of a part is deeper than has room for all of it
pub part-fits : (ts : List Token) (from to most : ℕ) → from ≤ to → to ≤ length ts → NoDeeper ts from to most → deepest (depth_at ts from) (part from to ts) ≤ most
part-fits ts from to most o h d = deepest-most most (unclosed [] (take from ts)) (part from to ts) (λ q l. each q l)
  where
    each : (q : ℕ) → q ≤ length (part from to ts) → length (unclosed (unclosed [] (take from ts)) (take q (part from to ts))) ≤ most
    each q l =
        let n : q ≤ to - from = omega (arith, l, length-take (to - from) (drop from ts)) in
        let fewer : take q (part from to ts) ≡ take q (drop from ts) = take-take q (to - from) (drop from ts) n in
        let all : take (from + q) ts ≡ take from ts ++ take q (drop from ts) = take-add from q ts in
        let e : depth_at ts (from + q) ≡ length (unclosed (unclosed [] (take from ts)) (take q (drop from ts))) = ap (λ z. length (unclosed [] z)) all ∙ ap length (unclosed-append [] (take from ts) (take q (drop from ts))) in
        let deep = d (from + q) (omega arith) (omega (arith, o, n)) (omega (arith, l, h, length-take (to - from) (drop from ts), length-drop from ts)) in
        omega (arith, deep, e, ap (λ z. length (unclosed (unclosed [] (take from ts)) z)) fewer)
