-- The child of a content that a part begins in, and what the part is from there.
use Rattle.std.specs.Prelude.{◌≡◌, ℕ, ◌+◌, ◌-◌, ◌≤◌, ◌<◌, cond, List, [], ◌∷◌, ◌++◌, length, take, drop, get_or}
use Rattle.std.specs.declared.sync.Arc.{Arc}
use Rattle.std.specs.Arc.{arc_value}
use Rattle.std.proofs.Common.{inl, inr, refl, ap, sym, ◌∙◌, subst, arith, append_assoc, length-append}
use Rattle.std.proofs.lemmas.List.{take_all, take_at, take-append-drop}
use Rattle.std.proofs.lemmas.Bool.{cases_lt, ne_eqb}
use Rattle.pm_tokens.specs.Tokens.{Token, Open, Close}
use Rattle.pm_tokens.specs.Scan.{unclosed, unmet, part, depth_at, shared_depth, Balanced}
use Rattle.pm_tokens.specs.Slices.{Slice, slice_size, slice_tokens, closed_over, cut}
use Rattle.pm_tokens.proofs.ScanLaws.{unmet-from}
use Rattle.pm_tokens.proofs.BalanceLaws.{balanced-append, balanced-whole, unclosed-balanced}
use Rattle.pm_tokens.proofs.PartLaws.{split-at, cut-slice, cut-size, cut-tokens}
use Rattle.pm_tokens.proofs.CutLaws.{cut-inside, cut-across, front-met}
use Rattle.pm_tokens.proofs.DepthLaws.{cut-sides}
use Rattle.pm_node.specs.declared.node.Node.{Node}
use Rattle.pm_node.specs.declared.node.Body.TheVariants.{Children}
use Rattle.pm_node.specs.Trees.{node_tokens, list_tokens, EachWhole}
use Rattle.pm_node.specs.Among.{Stands}
use Rattle.pm_node.proofs.TreeLaws.{node_tokens_at, list_tokens-append}
use Rattle.pm_node.proofs.WalkLaws.{front, front-more, list-split}
use Rattle.pm_build.proofs.PositionLaws.{depth-behind, depth-first, depth-flat}
use Rattle.pm_slice.specs.Sides.{sides, no_slice, or_none, IsKept, clipped}
use Rattle.pm_slice.specs.Cuts.{IsCut, Inside, HoldsNone, Flat}
use Rattle.pm_build.proofs.SpanLaws.{front-whole}

-- ---- cuts are slices

-- the tokens cut close no more nodes than are open before them
cut-met : (ts : List Token) (from to : ℕ) → Balanced ts → from ≤ to → to ≤ length ts → unmet 0 (part from to ts) ≤ length (unclosed [] (take from ts))
cut-met ts from to b h i =
    let a = take from ts in
    let x = part from to ts in
    let met : unmet 0 (a ++ (x ++ drop to ts)) ≡ 0 = ap (unmet 0) (sym (split-at ts from to h i).is) ∙ (balanced-whole b).met in
    let m = front-met a x (drop to ts) met in
    omega (arith, m.1, unmet-from (length (unclosed [] a)) x)

-- a cut without tokens is the empty slice
cut-one : (before ts : List Token) → unmet 0 ts ≤ length (unclosed [] before) → or_none (closed_over before ts) ≡ closed_over before ts
cut-one before [] h = refl
cut-one before (t ∷ ts) h =
    ap (λ b. cond b no_slice (closed_over before (t ∷ ts))) (ne_eqb (slice_size (closed_over before (t ∷ ts))) 0 (λ z. absurd (omega (arith, z, cut-size before (t ∷ ts) h))))

cut-kept : (ts : List Token) (from to : ℕ) → Balanced ts → from ≤ to → to ≤ length ts → IsKept (cut ts from to)
cut-kept ts from to b h i =
    let m = cut-met ts from to b h i in
    record { slice = cut-slice (take from ts) (part from to ts) m; one = cut-one (take from ts) (part from to ts) m }

pub is-cut : (ts : List Token) (from to : ℕ) (sl : Slice) → Balanced ts → from ≤ to → to ≤ length ts → sl ≡ cut ts from to → IsCut ts from to sl
is-cut ts from to sl b h i e =
    let s = cut-sides ts from to (balanced-whole b).met h i in
    record {
      in_range = (h, i);
      is = e;
      tokens = ap slice_tokens e ∙ cut-tokens (take from ts) (part from to ts) (cut-met ts from to b h i);
      start = ap (λ (z : Slice). z.open_start + shared_depth ts from to) e ∙ s.0;
      end = ap (λ (z : Slice). z.open_end + shared_depth ts from to) e ∙ s.1;
    }

pub across-is : (ts : List Token) (from to : ℕ) → Balanced ts → to ≤ length ts → Flat ts from to → sides (clipped ts from to) (depth_at ts from) (depth_at ts to) ≡ cut ts from to
across-is ts from to b i f = sym (cut-across ts from f.at to (balanced-whole b) f.after f.before i f.flat)

-- what was made is the cut
pub across-made : (ts made : List Token) (from to os oe : ℕ) → Balanced ts → to ≤ length ts → Flat ts from to → made ≡ clipped ts from to → os ≡ depth_at ts from → oe ≡ depth_at ts to → sides made os oe ≡ cut ts from to
across-made ts made from to os oe b i f m s e =
    ap (λ z. sides z os oe) m ∙ (ap (λ n. sides (clipped ts from to) n oe) s ∙ (ap (λ n. sides (clipped ts from to) (depth_at ts from) n) e ∙ across-is ts from to b i f))

pub across-kept : (ts made : List Token) (from to os oe : ℕ) → Balanced ts → to ≤ length ts → (f : Flat ts from to) → made ≡ clipped ts from to → os ≡ depth_at ts from → oe ≡ depth_at ts to → IsKept (sides made os oe)
across-kept ts made from to os oe b i f m s e =
    subst IsKept (sym (across-made ts made from to os oe b i f m s e)) (cut-kept ts from to b (omega (arith, f.after, f.before)) i)

-- ---- the child that a part begins in

-- the positions as they lie after the first i children
pub record Sought {Z : Type 0} (xs : List (Arc Node Z)) (i from to start end : ℕ) : Type 0 where
  pub at_from : start + length (front xs i) ≡ from
  pub at_to : end + length (front xs i) ≡ to
  pub whole : Balanced (front xs i)

module _ {Z : Type 0} (xs : List (Arc Node Z)) (from to : ℕ) where
  pub sought-found : (i start end : ℕ) → EachWhole xs → Stands xs from i start → from ≤ to → end ≡ to - (from - start) → Sought xs i from to start end
  sought-found i start end w s o e =
      let at : length (front xs i) + start ≡ from = s.offset in
      record { at_from = omega (arith, at); at_to = omega (arith, at, o, e); whole = front-whole xs i w }

  -- no node is around the end of the first i children
  boundary : (i : ℕ) → Balanced (front xs i) → depth_at (list_tokens xs) (length (front xs i)) ≡ 0
  boundary i b =
      let rest = list_tokens (drop i xs) in
      let all : list_tokens xs ≡ front xs i ++ rest = ap list_tokens (sym (take-append-drop i xs)) ∙ list_tokens-append (take i xs) (drop i xs) in
      let e : take (length (front xs i)) (list_tokens xs) ≡ front xs i = ap (take (length (front xs i))) all ∙ take_at (front xs i) rest (length (front xs i)) refl in
      ap (λ z. length (unclosed [] z)) e ∙ ap length (unclosed-balanced [] b)

  -- the part begins at the end of a child
  pub flat-here : (i start end : ℕ) → Sought xs i from to start end → from ≤ to → start ≡ 0 → Flat (list_tokens xs) from to
  flat-here i start end w o z =
      let e : length (front xs i) ≡ from = omega (arith, w.at_from, z) in
      record { at = from; after = omega arith; before = o; flat = ap (depth_at (list_tokens xs)) (sym e) ∙ boundary i w.whole }

  -- the part goes over the end of the child
  pub flat-over : (i start end n : ℕ) (x : Arc Node Z) → Sought xs i from to start end → i < length xs → x ≡ get_or xs i x → Balanced (node_tokens (arc_value x)) → n ≡ length (node_tokens (arc_value x)) → start < n → n ≤ end → Flat (list_tokens xs) from to
  flat-over i start end n x w k r bal ln lt le =
      let g = front-more xs i x k r in
      let l : length (front xs (i + 1)) ≡ length (front xs i) + n = omega (arith, ln, ap length g, length-append (front xs i) (node_tokens (arc_value x))) in
      record { at = length (front xs (i + 1)); after = omega (arith, l, w.at_from, lt); before = omega (arith, l, w.at_to, le); flat = boundary (i + 1) (subst Balanced (sym g) (balanced-append w.whole bal)) }

  -- the child has no content
  pub flat-child : (i start end : ℕ) (x : Arc Node Z) → Sought xs i from to start end → i < length xs → x ≡ get_or xs i x → start < length (node_tokens (arc_value x)) → from ≤ to → HoldsNone (arc_value x) → Flat (list_tokens xs) from to
  flat-child i start end x w k r lt o other =
      let n = arc_value x in
      let ts = node_tokens n in
      let rest = list_tokens (drop (i + 1) xs) in
      let left : from - length (front xs i) ≡ start = omega (arith, w.at_from) in
      let e : depth_at (list_tokens xs) from ≡ 0 =
      ap (λ z. depth_at z from) (list-split xs i x k r)
      ∙ (depth-behind (front xs i) (ts ++ rest) from w.whole (omega (arith, w.at_from))
      ∙ (ap (depth_at (ts ++ rest)) left ∙ (depth-first ts rest start lt ∙ depth-flat n start other))) in
      record { at = from; after = omega arith; before = o; flat = e }

  -- no child has both positions inside
  pub flat-none : (i start end n : ℕ) (x : Arc Node Z) → Sought xs i from to start end → i < length xs → x ≡ get_or xs i x → Balanced (node_tokens (arc_value x)) → n ≡ length (node_tokens (arc_value x)) → start < n → from ≤ to
      → (0 < start → end < length (node_tokens (arc_value x)) → HoldsNone (arc_value x)) → Flat (list_tokens xs) from to
  flat-none i start end n x w k r bal ln lt o other = elim (cases_lt 0 start) [
    | inl p ↦ (elim (cases_lt end n) [
      | inl q ↦ flat-child i start end x w k r (omega (arith, ln, lt)) o (other p (omega (arith, ln, q)))
      | inr q ↦ flat-over i start end n x w k r bal ln lt q
    ])
    | inr p ↦ flat-here i start end w o (omega (arith, p))
  ]

  -- after the last child
  pub flat-end : (i start end : ℕ) → Sought xs i from to start end → length xs ≤ i → from ≤ to → to ≤ length (list_tokens xs) → Flat (list_tokens xs) from to
  flat-end i start end w k o le =
      let f : length (front xs i) ≡ length (list_tokens xs) = ap (λ (zs : List (Arc Node Z)). length (list_tokens zs)) (take_all i xs k) in
      flat-here i start end w o (omega (arith, w.at_from, f, o, le))

  -- inside of a child the cut is that of its content
  pub cut-child : (i start end : ℕ) (x : Arc Node Z) (inner : List Token) → Sought xs i from to start end → i < length xs → x ≡ get_or xs i x → Inside (arc_value x) start end inner → from ≤ to → cut inner (start - 1) (end - 1) ≡ cut (list_tokens xs) from to
  cut-child i start end x inner w k r s o =
      let n = arc_value x in
      let before = front xs i in
      let rest = list_tokens (drop (i + 1) xs) in
      let ts : node_tokens n ≡ Open n.kind n.attrs n.marks ∷ (inner ++ (Close ∷ [])) = node_tokens_at n (Children inner) s.is in
      let all : list_tokens xs ≡ before ++ (Open n.kind n.attrs n.marks ∷ (inner ++ (Close ∷ rest))) =
      list-split xs i x k r ∙ (ap (λ z. before ++ (z ++ rest)) ts ∙ ap (λ z. before ++ (Open n.kind n.attrs n.marks ∷ z)) (append_assoc inner (Close ∷ []) rest)) in
      let len : length (node_tokens n) ≡ length inner + 2 = omega (arith, ap length ts, length-append inner (Close ∷ [])) in
      let f : from ≡ length before + 1 + (start - 1) = omega (arith, w.at_from, s.after_open) in
      let t : to ≡ length before + 1 + (end - 1) = omega (arith, w.at_from, w.at_to, s.after_open, o) in
      let c = cut-inside before n.kind n.attrs n.marks inner rest (balanced-whole s.whole) (start - 1) (end - 1) (omega (arith, w.at_from, w.at_to, o)) (omega (arith, s.before_close, len, w.at_from, w.at_to, o, s.after_open)) in
      sym (ap (λ z. cut z from to) all ∙ (ap (λ p. cut (before ++ (Open n.kind n.attrs n.marks ∷ (inner ++ (Close ∷ rest)))) p to) f
      ∙ (ap (λ p. cut (before ++ (Open n.kind n.attrs n.marks ∷ (inner ++ (Close ∷ rest)))) (length before + 1 + (start - 1)) p) t ∙ c)))

  -- a content of a child is shorter
  pub shorter : (i start end : ℕ) (x : Arc Node Z) (inner : List Token) → i < length xs → x ≡ get_or xs i x → Inside (arc_value x) start end inner → length inner < length (list_tokens xs)
  shorter i start end x inner k r s =
      let n = arc_value x in
      let ts : node_tokens n ≡ Open n.kind n.attrs n.marks ∷ (inner ++ (Close ∷ [])) = node_tokens_at n (Children inner) s.is in
      let all = list-split xs i x k r in
      omega (arith, ap length ts, length-append inner (Close ∷ []), ap length all, length-append (front xs i) (node_tokens n ++ list_tokens (drop (i + 1) xs)), length-append (node_tokens n) (list_tokens (drop (i + 1) xs)))

-- a position inside of a node is one of its content
pub inside-bound : (n : Node) (start end : ℕ) (inner : List Token) → Inside n start end inner → end - 1 ≤ length inner
inside-bound n start end inner s =
    let ts : node_tokens n ≡ Open n.kind n.attrs n.marks ∷ (inner ++ (Close ∷ [])) = node_tokens_at n (Children inner) s.is in
    omega (arith, s.before_close, ap length ts, length-append inner (Close ∷ []))
