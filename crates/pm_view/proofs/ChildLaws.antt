-- A child of a content and what is around it: its tokens, their depth, and what comes after it.
use Rattle.std.specs.Prelude.{◌≡◌, ℕ, ◌+◌, ◌-◌, ◌≤◌, ◌<◌, Some, List, [], ◌∷◌, ◌++◌, length, take, drop, get_or}
use Rattle.std.specs.declared.sync.Arc.{Arc}
use Rattle.std.specs.Arc.{arc_value}
use Rattle.std.proofs.Common.{zero, suc, inl, inr, refl, ap, sym, ◌∙◌, arith, subst, length-append}
use Rattle.std.proofs.lemmas.Bool.{cases_lt}
use Rattle.std.proofs.lemmas.List.{take_all}
use Rattle.pm_tokens.specs.Tokens.{Attrs, Marks, Token, Close}
use Rattle.pm_tokens.specs.Scan.{depth_at}
use Rattle.pm_node.specs.declared.node.Node.{Node}
use Rattle.pm_node.specs.declared.node.Body.{Body}
use Rattle.pm_node.specs.declared.node.Body.TheVariants.{Text, Leaf as Childless, Children}
use Rattle.pm_node.specs.Among.{Stands}
use Rattle.pm_node.specs.Trees.{body_tokens, node_tokens, list_tokens, IsText, Apart, IsNormal, WholeBody, EachWhole}
use Rattle.pm_node.proofs.TreeLaws.{node_tokens_at}
use Rattle.pm_node.proofs.WalkLaws.{front, front-more, list-split, rest, Child, child-at}
use Rattle.pm_build.proofs.PositionLaws.{depth-behind, depth-first, depth-flat, depth-inside}
use Rattle.pm_build.proofs.SpanLaws.{front-whole}
use Rattle.pm_slice.proofs.ClipWalk.{front-rest}
use Rattle.pm_view.specs.Known.{Piece, known}
use Rattle.pm_view.specs.Ahead.{IsFlat}
use Rattle.pm_view.proofs.GroupLaws.{first, EndsText}
use Rattle.pm_view.proofs.KnownLaws.{length-known, known-balanced}

-- ---- lists

drop-front : {A : Type 0} (xs ys : List A) (n r : ℕ) → n ≡ length xs + r → drop n (xs ++ ys) ≡ drop r ys
drop-front [] ys n r e = ap (λ k. drop k ys) (let f : n ≡ r = omega (arith, e) in f)
drop-front (x ∷ xs) ys zero r e = absurd (omega (arith, e))
drop-front (x ∷ xs) ys (suc n) r e = drop-front xs ys n r (omega (arith, e))

pub drop-within : {A : Type 0} (xs ys : List A) (r : ℕ) → r ≤ length xs → drop r (xs ++ ys) ≡ drop r xs ++ ys
drop-within xs ys zero h = refl
drop-within [] ys (suc r) h = absurd (omega (arith, h))
drop-within (x ∷ xs) ys (suc r) h = drop-within xs ys r (omega (arith, h))

-- ---- depths

module _ {Z : Type 0} (xs : List (Arc Node Z)) (w : EachWhole xs) where
  -- between two children no node is around
  pub depth-between : (i p : ℕ) → p ≡ length (front xs i) → depth_at (list_tokens xs) p ≡ 0
  depth-between i p e =
      let f = front xs i in
      let none : p - length f ≡ 0 = omega (arith, e) in
      ap (λ z. depth_at z p) (front-rest xs i) ∙ (depth-behind f (rest xs i) p (front-whole xs i w) (omega (arith, e)) ∙ ap (depth_at (rest xs i)) none)

  -- in a child, as many as in the child alone
  pub depth-child : (i p : ℕ) (x : Arc Node Z) → i < length xs → x ≡ get_or xs i x → length (front xs i) ≤ p → p < length (front xs i) + length (node_tokens (arc_value x)) → depth_at (list_tokens xs) p ≡ depth_at (node_tokens (arc_value x)) (p - length (front xs i))
  depth-child i p x h r l u =
      let f = front xs i in
      let ts = node_tokens (arc_value x) in
      let behind = list_tokens (drop (i + 1) xs) in
      ap (λ z. depth_at z p) (list-split xs i x h r)
      ∙ (depth-behind f (ts ++ behind) p (front-whole xs i w) l ∙ depth-first ts behind (p - length f) (omega (arith, l, u)))

-- ---- the first token of nodes

first-text : (k : ℕ) (a : Attrs) (ms : Marks) (b : Body) (us : List Token) (v : ℕ) (m : Marks) → 0 < length (body_tokens k a ms b) → first (known [] (body_tokens k a ms b ++ us)) ≡ Some (Piece v m) → IsText b × (ms ≡ m)
first-text k a ms (Text []) us v m h e = absurd (omega (arith, h))
first-text k a ms (Text (u ∷ rest)) us v m h e = (tt, cc)
first-text k a ms Childless us v m h e = absurd (cc)
first-text k a ms (Children ts) us v m h e = absurd (cc)

apart-ends : {Z : Type 0} (n : Node) (ys : List (Arc Node Z)) → IsText n.body → IsNormal ys → Apart n ys → EndsText n.marks (known [] (list_tokens ys))
apart-ends n [] t w a v e = absurd (cc)
apart-ends n (y ∷ ys) t w a v e =
    let z = arc_value y in
    let f = first-text z.kind z.attrs z.marks z.body (list_tokens ys) v n.marks w.0 e in
    a (t, f.0, sym f.1)

-- ---- the child that a position is at or inside of

-- `rest` of the tokens of the node n, a child, are before the position `at`, and `end` is the position after the child
pub record IsNext (ts : List Token) (at rest end : ℕ) (n : Node) : Type 0 where
  pub tokens : drop at (known [] ts) ≡ drop rest (known [] (node_tokens n)) ++ drop end (known [] ts)
  pub behind : IsFlat ts end
  pub body : WholeBody n.body
  pub inside : rest < length (node_tokens n)
  pub text : IsText n.body → EndsText n.marks (drop end (known [] ts))
  pub depth : depth_at ts at ≡ depth_at (node_tokens n) rest

pub next-child : {Z : Type 0} (xs : List (Arc Node Z)) (at i rest end : ℕ) (x : Arc Node Z) → IsNormal xs → EachWhole xs → Stands xs at i rest → i < length xs → x ≡ get_or xs i x → end ≡ at - rest + length (node_tokens (arc_value x))
    → IsNext (list_tokens xs) at rest end (arc_value x)
next-child xs at i rest end x n w s h r e =
    let f = front xs i in
    let t = arc_value x in
    let ts = node_tokens t in
    let us = list_tokens (drop (i + 1) xs) in
    let c : Child xs i t = child-at xs i x n w h r in
    let inside : rest < length ts = s.inside x h r in
    let o : length f + rest ≡ at = s.offset in
    let longer : length (front xs (i + 1)) ≡ length f + length ts = ap length (front-more xs i x h r) ∙ length-append f ts in
    let split : known [] (list_tokens xs) ≡ known [] f ++ (known [] ts ++ known [] us) =
    ap (known []) (list-split xs i x h r) ∙ (known-balanced (front-whole xs i w) [] (ts ++ us) ∙ ap (λ z. known [] f ++ z) (known-balanced c.whole [] us)) in
    let past : drop end (known [] (list_tokens xs)) ≡ known [] us =
    ap (drop end) split
    ∙ (drop-front (known [] f) (known [] ts ++ known [] us) end (length ts) (omega (arith, o, e, length-known [] f))
    ∙ drop-front (known [] ts) (known [] us) (length ts) 0 (omega (arith, length-known [] ts))) in
    record {
      tokens =
          ap (drop at) split
          ∙ (drop-front (known [] f) (known [] ts ++ known [] us) at rest (omega (arith, o, length-known [] f))
          ∙ (drop-within (known [] ts) (known [] us) rest (omega (arith, inside, length-known [] ts)) ∙ ap (λ z. drop rest (known [] ts) ++ z) (sym past)));
      behind = record {
        within = omega (arith, o, e, longer, ap length (front-rest xs (i + 1)), length-append (front xs (i + 1)) (list_tokens (drop (i + 1) xs)));
        flat = depth-between xs w (i + 1) end (omega (arith, o, e, longer));
      };
      body = c.body;
      inside = inside;
      text = λ is. subst (EndsText t.marks) (sym past) (apart-ends t (drop (i + 1) xs) is c.normal c.apart);
      depth =
          let q : at - length f ≡ rest = omega (arith, o) in
          depth-child xs w i at x h r (omega (arith, o)) (omega (arith, o, inside)) ∙ ap (depth_at ts) q;
    }

-- the same of the child as it is read
pub child-next : {Z : Type 0} (xs : List (Arc Node Z)) (ts : List Token) (at i rest size : ℕ) (x : Arc Node Z) (n : Node) → list_tokens xs ≡ ts → IsNormal xs → EachWhole xs → Stands xs at i rest → i < length xs → x ≡ get_or xs i x
    → n ≡ arc_value x → size ≡ length (node_tokens n) → IsNext ts at rest (at - rest + size) n
child-next xs ts at i rest size x n e m w s h r is count =
    let long : at - rest + size ≡ at - rest + length (node_tokens (arc_value x)) = ap (λ z. at - rest + z) (count ∙ ap (λ z. length (node_tokens z)) is) in
    let P : List Token → Type 0 = λ z. IsNext z at rest (at - rest + size) n in
    let Q : Node → Type 0 = λ z. IsNext (list_tokens xs) at rest (at - rest + size) z in
    subst P e (subst Q (sym is) (next-child xs at i rest (at - rest + size) x m w s h r long))

-- inside of a child with content there is a node around
pub depth-in-child : (ts : List Token) (at rest end : ℕ) (n : Node) (inner : List Token) → IsNext ts at rest end n → n.body ≡ Children inner → 0 < rest → depth_at ts at ≡ 1 + depth_at inner (rest - 1)
depth-in-child ts at rest end n inner k b h = k.depth ∙ depth-inside n inner rest b (subst WholeBody b k.body) h k.inside

pub flat-in-child : (ts : List Token) (at rest end : ℕ) (n : Node) (inner : List Token) → IsNext ts at rest end n → n.body ≡ Children inner → depth_at ts at ≡ 0 → rest ≡ 0
flat-in-child ts at zero end n inner k b f = refl
flat-in-child ts at (suc r) end n inner k b f = absurd (omega (arith, f, depth-in-child ts at (suc r) end n inner k b (omega arith)))

pub depth-in-flat : (ts : List Token) (at rest end : ℕ) (n : Node) → IsNext ts at rest end n → ((inner : List Token) → n.body ≡ Children inner → ⊥) → depth_at ts at ≡ 0
depth-in-flat ts at rest end n k b = k.depth ∙ depth-flat n rest b

-- after the last child the content is at its end
pub stands-end : {Z : Type 0} (xs : List (Arc Node Z)) (ts : List Token) (at i r : ℕ) → list_tokens xs ≡ ts → Stands xs at i r → length xs ≤ i → length ts ≤ at
stands-end xs ts at i r e s h = omega (arith, s.offset, ap length e, ap (λ z. length (list_tokens z)) (take_all i xs h))

-- at the end of a child no node is around
pub flat-between : {Z : Type 0} (xs : List (Arc Node Z)) (ts : List Token) (at i r : ℕ) → list_tokens xs ≡ ts → EachWhole xs → Stands xs at i r → r ≡ 0 → depth_at ts at ≡ 0
flat-between xs ts at i r e w s z =
    let o : length (list_tokens (take i xs)) + r ≡ at = s.offset in
    ap (λ q. depth_at q at) (sym e) ∙ depth-between xs w i at (omega (arith, o, z))

-- a position inside of a child is before the end
pub stands-before : {Z : Type 0} (xs : List (Arc Node Z)) (at i r : ℕ) → Stands xs at i r → 0 < r → i < length xs
stands-before xs at i r s h = elim (cases_lt i (length xs)) [
  | inl before ↦ before
  | inr past ↦ (
      let w = s.within in
      let z = s.at_end (omega (arith, w, past)) in
      absurd (omega (arith, z, h)))
]

-- what a child holds has fewer tokens
pub child-shorter : (ts : List Token) (at rest size : ℕ) (n : Node) (inner : List Token) → IsNext ts at rest (at - rest + size) n → n.body ≡ Children inner → size ≡ length (node_tokens n) → length inner < length ts
child-shorter ts at rest size n inner k b e = omega (arith, k.behind.within, e, ap length (node_tokens_at n (Children inner) b), length-append inner (Close ∷ []))

pub child-room : (ts : List Token) (at rest end : ℕ) (n : Node) (inner : List Token) → IsNext ts at rest end n → n.body ≡ Children inner → rest - 1 ≤ length inner
child-room ts at rest end n inner k b = omega (arith, k.inside, ap length (node_tokens_at n (Children inner) b), length-append inner (Close ∷ []))
