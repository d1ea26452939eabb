-- What stands at a position that was found among nodes.
use Rattle.std.specs.Prelude.{◌≡◌, ℕ, ◌+◌, ◌-◌, ◌≤◌, ◌<◌, None, List, [], ◌++◌, length, take, reverse, get_or}
use Rattle.std.specs.declared.sync.Arc.{Arc}
use Rattle.std.specs.Arc.{arc_value}
use Rattle.std.proofs.Common.{ap, ◌∙◌, arith, inl, inr}
use Rattle.std.proofs.lemmas.Bool.{cases_lt}
use Rattle.std.proofs.lemmas.List.{take_all, drop_all}
use Rattle.pm_tokens.specs.Tokens.{Token}
use Rattle.pm_tokens.specs.Scan.{unclosed, around, depth_at}
use Rattle.pm_tokens.proofs.BalanceLaws.{unclosed-balanced}
use Rattle.pm_node.specs.Among.{Stands}
use Rattle.pm_node.specs.declared.node.Node.{Node}
use Rattle.pm_node.specs.Trees.{node_tokens, list_tokens, EachWhole}
use Rattle.pm_node.proofs.WalkLaws.{front, list-split, rest}
use Rattle.pm_build.specs.Positions.{first_unit, unit_at, path}
use Rattle.pm_build.proofs.PositionLaws.{around-balanced, depth-behind, path-behind, unit-behind, depth-first, path-first, unit-first}
use Rattle.pm_build.proofs.SpanLaws.{front-whole}
use Rattle.pm_node.proofs.ChangeLaws.{whole-list}

-- in a node
module _ {Z : Type 0} (xs : List (Arc Node Z)) (pos i r : ℕ) (x : Arc Node Z) (w : EachWhole xs) (s : Stands xs pos i r) (h : i < length xs) (e : x ≡ get_or xs i x) where
  left : pos - length (front xs i) ≡ r
  left = omega (arith, s.offset)

  past : length (front xs i) ≤ pos
  past = omega (arith, s.offset)

  pub depth-found : depth_at (list_tokens xs) pos ≡ depth_at (node_tokens (arc_value x)) r
  depth-found =
      let n = node_tokens (arc_value x) in
      let ys = n ++ rest xs (i + 1) in
      ap (λ z. depth_at z pos) (list-split xs i x h e) ∙ (depth-behind (front xs i) ys pos (front-whole xs i w) past ∙ (ap (depth_at ys) left ∙ depth-first n (rest xs (i + 1)) r (s.inside x h e)))

  pub path-found : path (list_tokens xs) pos ≡ path (node_tokens (arc_value x)) r
  path-found =
      let n = node_tokens (arc_value x) in
      let ys = n ++ rest xs (i + 1) in
      ap (λ z. path z pos) (list-split xs i x h e) ∙ (path-behind (front xs i) ys pos (front-whole xs i w) past ∙ (ap (path ys) left ∙ path-first n (rest xs (i + 1)) r (s.inside x h e)))

  pub unit-found : unit_at (list_tokens xs) pos ≡ unit_at (node_tokens (arc_value x)) r
  unit-found =
      let n = node_tokens (arc_value x) in
      let ys = n ++ rest xs (i + 1) in
      ap (λ z. unit_at z pos) (list-split xs i x h e) ∙ (unit-behind (front xs i) ys pos past ∙ (ap (unit_at ys) left ∙ unit-first n (rest xs (i + 1)) r (s.inside x h e)))

-- after all of them
module _ {Z : Type 0} (xs : List (Arc Node Z)) (pos i r : ℕ) (w : EachWhole xs) (s : Stands xs pos i r) (h : length xs ≤ i) where
  at-end : take pos (list_tokens xs) ≡ list_tokens xs
  at-end = take_all pos (list_tokens xs) (omega (arith, s.offset, ap (λ z. length (list_tokens z)) (take_all i xs h)))

  pub depth-last : depth_at (list_tokens xs) pos ≡ 0
  depth-last = ap (λ z. length (unclosed [] z)) at-end ∙ ap length (unclosed-balanced [] (whole-list xs w))

  pub path-last : path (list_tokens xs) pos ≡ []
  path-last = ap (λ z. reverse (around [] z)) at-end ∙ ap reverse (around-balanced (list_tokens xs) (whole-list xs w))

-- before the end it is in a node
pub found-within : {Z : Type 0} (xs : List (Arc Node Z)) (pos i r : ℕ) → Stands xs pos i r → pos < length (list_tokens xs) → i < length xs
found-within xs pos i r s h = elim (cases_lt i (length xs)) [
  | inl p ↦ p
  | inr p ↦ absurd (let e : i ≡ length xs = omega (arith, p, s.within) in omega (arith, h, s.offset, s.at_end e, ap (λ z. length (list_tokens z)) (take_all i xs p)))
]

-- no unit is past the end
pub unit-past : (ts : List Token) (pos : ℕ) → length ts ≤ pos → unit_at ts pos ≡ None
unit-past ts pos h = ap first_unit (drop_all pos ts h)
