-- A change within one node's content keeps the content around the node without a fault.
use Rattle.std.specs.Prelude.{◌≡◌, ℕ, ◌+◌, ◌-◌, ◌≤◌, ◌<◌, ◌==◌, max, Bool, true, false, ◌&&◌, not, cond, Option, Some, None, List, [], ◌∷◌, ◌++◌, length, take, drop, get_or}
use Rattle.std.proofs.Common.{zero, suc, refl, ap, sym, ◌∙◌, subst, arith, append_assoc, length-append, length-take, length-drop}
use Rattle.std.proofs.lemmas.List.{take-append-le, drop-append-le}
use Rattle.std.proofs.Math.Seq.{take-append-add, drop-append-add}
use Rattle.pm_tokens.specs.Tokens.{Attrs, Marks, Token, Open, Close, Leaf, CodeUnit}
use Rattle.pm_tokens.specs.Schemas.{Schema}
use Rattle.pm_tokens.specs.Scan.{Balanced, none, leaf, unit, node, deepest}
use Rattle.pm_tokens.specs.Kids.{goes_on, kids}
use Rattle.pm_tokens.specs.Faults.{attrs_fit, marks_fit, content_fits, high_of, pair_fits, first_some, fault_unless, first_fault, first_broken}
use Rattle.pm_tokens.proofs.KidLaws.{kids-node}
use Rattle.pm_tokens.proofs.FaultLaws.{own_fault, fault-append, fault-node, last_unit, PartsTexts, broken-append, broken-node}
use Rattle.pm_tokens.proofs.BalanceLaws.{balanced-append}
use Rattle.std.specs.declared.sync.Arc.{Arc}
use Rattle.std.specs.Arc.{arc_value}
use Rattle.pm_node.specs.declared.node.Node.{Node}
use Rattle.pm_node.specs.declared.node.Body.TheVariants.{Children}
use Rattle.pm_node.specs.Trees.{node_tokens, list_tokens, EachWhole}
use Rattle.pm_node.specs.Changes.{Holds, Changed, Keeps, NodeKeeps, IsPlace, IsSameBehind}
use Rattle.pm_node.proofs.TreeLaws.{node_tokens_at, balanced-node}
use Rattle.pm_node.proofs.WalkLaws.{front, front-more, list-split, whole-node}
use Rattle.pm_node.proofs.DeepLaws.{deep-append, deep-node}
use Rattle.pm_tokens.proofs.ValidLaws.{broken-none, some-none, none-some, unless-none, none-unless}

-- ---- answers of which there are none

unless-moved : (a m c : Bool) (at to : ℕ) → fault_unless a m c at ≡ None → fault_unless a m c to ≡ None
unless-moved a m c at to h = let u = unless-none a m c at h in none-unless a m c to u.0 u.1 u.2

and-parts : (a b c : Bool) → (a && b && c) ≡ true → (a ≡ true) × (b ≡ true) × (c ≡ true)
and-parts true true c h = (refl, refl, h)
and-parts true false c h = absurd (cc)
and-parts false b c h = absurd (cc)

and-three : (a b c : Bool) → a ≡ true → b ≡ true → c ≡ true → (a && b && c) ≡ true
and-three a b c h k l = rw (h, k, l) refl

-- ---- no fault, wherever the content stands

pub broken-moved : (at to : ℕ) (high : Option Marks) (ts : List Token) → first_broken at high ts ≡ None → first_broken to high ts ≡ None
broken-moved at to high [] h = refl
broken-moved at to high (t ∷ ts) h =
    let b = broken-none (pair_fits high t ts) (first_broken (at + 1) (high_of t) ts) at h in
    rw b.0 (broken-moved (at + 1) (to + 1) (high_of t) ts b.1)

module _ (s : Schema) where
  -- only the type of the node around matters
  pub fault-moved : {ts : List Token} → Balanced ts → (p at to : ℕ) (ps qs : List ℕ) → first_fault s at (p ∷ ps) ts ≡ None → first_fault s to (p ∷ qs) ts ≡ None
  fault-moved none p at to ps qs h = refl
  fault-moved (leaf k a m {ts = ts} b) p at to ps qs h =
      let f = some-none (fault_unless (attrs_fit s (Leaf k a m)) (marks_fit s p (Leaf k a m)) (content_fits s (Leaf k a m) ts) at) (first_fault s (at + 1) (p ∷ ps) ts) h in
      none-some (fault_unless (attrs_fit s (Leaf k a m)) (marks_fit s p (Leaf k a m)) (content_fits s (Leaf k a m) ts) to) (first_fault s (to + 1) (p ∷ qs) ts)
      (unless-moved (attrs_fit s (Leaf k a m)) (marks_fit s p (Leaf k a m)) (content_fits s (Leaf k a m) ts) at to f.0) (fault-moved b p (at + 1) (to + 1) ps qs f.1)
  fault-moved (unit u m {ts = ts} b) p at to ps qs h =
      let f = some-none (fault_unless (attrs_fit s (CodeUnit u m)) (marks_fit s p (CodeUnit u m)) true at) (first_fault s (at + 1) (p ∷ ps) ts) h in
      none-some (fault_unless (attrs_fit s (CodeUnit u m)) (marks_fit s p (CodeUnit u m)) true to) (first_fault s (to + 1) (p ∷ qs) ts)
      (unless-moved (attrs_fit s (CodeUnit u m)) (marks_fit s p (CodeUnit u m)) true at to f.0) (fault-moved b p (at + 1) (to + 1) ps qs f.1)
  fault-moved (node k a m {inner = inner} {ts = ts} i b) p at to ps qs h =
      let A = attrs_fit s (Open k a m) in
      let M = marks_fit s p (Open k a m) in
      let C = content_fits s (Open k a m) (inner ++ (Close ∷ ts)) in
      let f = some-none (fault_unless A M C at) (first_fault s (at + 1) (k ∷ p ∷ ps) (inner ++ (Close ∷ ts))) h in
      let g = some-none (first_fault s (at + 1) (k ∷ p ∷ ps) inner) (first_fault s ((at + 1) + length inner) (k ∷ p ∷ ps) (Close ∷ ts)) (sym (fault-append s (at + 1) (k ∷ p ∷ ps) i (Close ∷ ts)) ∙ f.1) in
      none-some (fault_unless A M C to) (first_fault s (to + 1) (k ∷ p ∷ qs) (inner ++ (Close ∷ ts))) (unless-moved A M C at to f.0)
      (fault-append s (to + 1) (k ∷ p ∷ qs) i (Close ∷ ts)
      ∙ none-some (first_fault s (to + 1) (k ∷ p ∷ qs) inner) (first_fault s ((to + 1) + length inner) (k ∷ p ∷ qs) (Close ∷ ts))
      (fault-moved i k (at + 1) (to + 1) (p ∷ ps) (p ∷ qs) g.0) (fault-moved b p (((at + 1) + length inner) + 1) (((to + 1) + length inner) + 1) ps qs g.1))

-- ---- a node among others

-- the types of the children do not tell what is in one of them
kids-same : (text : ℕ) (r : Option Marks) {xs : List Token} → Balanced xs → (k : ℕ) (a : Attrs) (m : Marks) {inner other : List Token} → Balanced inner → Balanced other → (ys : List Token)
    → kids text 0 r (xs ++ (Open k a m ∷ (inner ++ (Close ∷ ys)))) ≡ kids text 0 r (xs ++ (Open k a m ∷ (other ++ (Close ∷ ys))))
kids-same text r none k a m i j ys = kids-node text r k a m i ys ∙ sym (kids-node text r k a m j ys)
kids-same text r (leaf k' a' m' b) k a m i j ys = ap (λ z. k' ∷ z) (kids-same text None b k a m i j ys)
kids-same text r (unit u m' b) k a m i j ys = ap (λ z. cond (goes_on r m') z (text ∷ z)) (kids-same text (Some m') b k a m i j ys)
kids-same text r (node k' a' m' {inner = within} {ts = ts} w b) k a m {inner = inner} {other = other} i j ys =
    ap (λ z. kids text 0 r (Open k' a' m' ∷ z)) (append_assoc within (Close ∷ ts) (Open k a m ∷ (inner ++ (Close ∷ ys))))
    ∙ (kids-node text r k' a' m' w (ts ++ (Open k a m ∷ (inner ++ (Close ∷ ys))))
    ∙ (ap (λ z. k' ∷ z) (kids-same text None b k a m i j ys)
    ∙ (sym (kids-node text r k' a' m' w (ts ++ (Open k a m ∷ (other ++ (Close ∷ ys)))))
    ∙ sym (ap (λ z. kids text 0 r (Open k' a' m' ∷ z)) (append_assoc within (Close ∷ ts) (Open k a m ∷ (other ++ (Close ∷ ys))))))))

open-parts : (r : Option Marks) (k : ℕ) (a : Attrs) (m : Marks) (ts : List Token) → PartsTexts r (Open k a m ∷ ts)
open-parts None k a m ts = tt
open-parts (Some n) k a m ts = tt

-- a node with this content
abbrev node_of : ℕ → Attrs → Marks → List Token → List Token
node_of k a m ts = Open k a m ∷ (ts ++ (Close ∷ []))

module _ (s : Schema) (kind levels k : ℕ) (a : Attrs) (m : Marks) {xs ys : List Token} (bx : Balanced xs) (by : Balanced ys) where
  -- the node between others
  abbrev whole : List Token → List Token
  whole ts = xs ++ (node_of k a m ts ++ ys)

  whole-is : (ts : List Token) → whole ts ≡ xs ++ (Open k a m ∷ (ts ++ (Close ∷ ys)))
  whole-is ts = ap (λ z. xs ++ (Open k a m ∷ z)) (append_assoc ts (Close ∷ []) ys)

  fault-whole : (at : ℕ) (ps : List ℕ) {ts : List Token} → Balanced ts → first_fault s at (kind ∷ ps) (whole ts)
      ≡ first_some (first_fault s at (kind ∷ ps) xs) (first_some (first_some (own_fault s (at + length xs) kind k a m ts) (first_fault s ((at + length xs) + 1) (k ∷ kind ∷ ps) ts)) (first_fault s ((at + length xs) + length (node_of k a m ts)) (kind ∷ ps) ys))
  fault-whole at ps {ts = ts} b =
      fault-append s at (kind ∷ ps) bx (node_of k a m ts ++ ys)
      ∙ ap (first_some (first_fault s at (kind ∷ ps) xs))
      (fault-append s (at + length xs) (kind ∷ ps) (balanced-node k a m b) ys
      ∙ ap (λ z. first_some z (first_fault s ((at + length xs) + length (node_of k a m ts)) (kind ∷ ps) ys)) (fault-node s (at + length xs) (kind ∷ ps) k a m b))

  broken-whole : (at : ℕ) (ts : List Token) → first_broken at None (whole ts)
      ≡ first_some (first_broken at None xs) (first_some (first_broken ((at + length xs) + 1) None ts) (first_broken ((at + length xs) + length ts + 2) None ys))
  broken-whole at ts =
      ap (first_broken at None) (whole-is ts)
      ∙ (broken-append at xs (Open k a m ∷ (ts ++ (Close ∷ ys))) (open-parts (last_unit None xs) k a m (ts ++ (Close ∷ ys)))
      ∙ ap (first_some (first_broken at None xs)) (broken-node (at + length xs) k a m ts ys))

  deep-whole : {ts : List Token} → Balanced ts → deepest 0 (whole ts) ≡ max (deepest 0 xs) (max (suc (deepest 0 ts)) (deepest 0 ys))
  deep-whole {ts = ts} b =
      deep-append 0 bx (node_of k a m ts ++ ys)
      ∙ ap (max (deepest 0 xs)) (deep-append 0 (balanced-node k a m b) ys ∙ ap (λ n. max n (deepest 0 ys)) (deep-node k a m b))

  -- the parts of content without a fault
  record Parts (at : ℕ) (ps : List ℕ) (ts : List Token) : Type 0 where
    front : first_fault s at (kind ∷ ps) xs ≡ None
    own : own_fault s (at + length xs) kind k a m ts ≡ None
    within : first_fault s ((at + length xs) + 1) (k ∷ kind ∷ ps) ts ≡ None
    behind : first_fault s ((at + length xs) + length (node_of k a m ts)) (kind ∷ ps) ys ≡ None

  parts : (at : ℕ) (ps : List ℕ) {ts : List Token} → Balanced ts → first_fault s at (kind ∷ ps) (whole ts) ≡ None → Parts at ps ts
  parts at ps {ts = ts} b h =
      let f = some-none (first_fault s at (kind ∷ ps) xs) _ (sym (fault-whole at ps b) ∙ h) in
      let g = some-none (first_some (own_fault s (at + length xs) kind k a m ts) (first_fault s ((at + length xs) + 1) (k ∷ kind ∷ ps) ts)) (first_fault s ((at + length xs) + length (node_of k a m ts)) (kind ∷ ps) ys) f.1 in
      let e = some-none (own_fault s (at + length xs) kind k a m ts) (first_fault s ((at + length xs) + 1) (k ∷ kind ∷ ps) ts) g.0 in
      record { front = f.0; own = e.0; within = e.1; behind = g.1 }

  -- what the node's own token must be, apart from its children
  own-parts : (at : ℕ) (ts : List Token) → own_fault s at kind k a m ts ≡ None
      → (attrs_fit s (Open k a m) ≡ true) × (marks_fit s kind (Open k a m) ≡ true) × (not (k == s.text) ≡ true) × (not (s.is_leaf k) ≡ true) × (s.accepts k (kids s.text 0 None ts) ≡ true)
  own-parts at ts h =
      let u = unless-none (attrs_fit s (Open k a m)) (marks_fit s kind (Open k a m)) (content_fits s (Open k a m) ts) at h in
      let c = and-parts (not (k == s.text)) (not (s.is_leaf k)) (s.accepts k (kids s.text 0 None ts)) u.2 in
      (u.0, u.1, c.0, c.1, c.2)

  -- the content of a node of such a content
  pub inner-holds : {ts : List Token} → Balanced ts → Holds s kind levels (whole ts) → Holds s k (levels - 1) ts
  inner-holds {ts = ts} b h =
      let p = parts 0 [] b (h.faultless 0 []) in
      let f = some-none (first_broken 0 None xs) _ (sym (broken-whole 0 ts) ∙ h.unbroken 0) in
      let g = some-none (first_broken ((0 + length xs) + 1) None ts) _ f.1 in
      record {
        faultless = λ at ps. fault-moved s b k ((0 + length xs) + 1) at (kind ∷ []) ps p.within;
        unbroken = λ at. broken-moved ((0 + length xs) + 1) at None ts g.0;
        shallow = omega (arith, h.shallow, deep-whole b);
        accepted = (own-parts (0 + length xs) ts p.own).4;
      }

  -- where the node gets other content without a fault
  pub whole-holds : {ts us : List Token} → Balanced ts → Balanced us → Holds s kind levels (whole ts) → Holds s k (levels - 1) us → Holds s kind levels (whole us)
  whole-holds {ts = ts} {us = us} b d h w =
      record {
        faultless = λ at ps.
            let p = parts at ps b (h.faultless at ps) in
            let o = own-parts (at + length xs) ts p.own in
            let own : own_fault s (at + length xs) kind k a m us ≡ None =
            none-unless (attrs_fit s (Open k a m)) (marks_fit s kind (Open k a m)) (content_fits s (Open k a m) us) (at + length xs) o.0 o.1 (and-three (not (k == s.text)) (not (s.is_leaf k)) (s.accepts k (kids s.text 0 None us)) o.2 o.3 w.accepted) in
            fault-whole at ps d
            ∙ none-some (first_fault s at (kind ∷ ps) xs) _ p.front
            (none-some (first_some (own_fault s (at + length xs) kind k a m us) (first_fault s ((at + length xs) + 1) (k ∷ kind ∷ ps) us)) (first_fault s ((at + length xs) + length (node_of k a m us)) (kind ∷ ps) ys)
            (none-some (own_fault s (at + length xs) kind k a m us) (first_fault s ((at + length xs) + 1) (k ∷ kind ∷ ps) us) own (w.faultless ((at + length xs) + 1) (kind ∷ ps)))
            (fault-moved s by kind ((at + length xs) + length (node_of k a m ts)) ((at + length xs) + length (node_of k a m us)) ps ps p.behind));
        unbroken = λ at.
            let f = some-none (first_broken at None xs) _ (sym (broken-whole at ts) ∙ h.unbroken at) in
            let g = some-none (first_broken ((at + length xs) + 1) None ts) (first_broken ((at + length xs) + length ts + 2) None ys) f.1 in
            broken-whole at us
            ∙ none-some (first_broken at None xs) _ f.0
            (none-some (first_broken ((at + length xs) + 1) None us) (first_broken ((at + length xs) + length us + 2) None ys) (w.unbroken ((at + length xs) + 1))
            (broken-moved ((at + length xs) + length ts + 2) ((at + length xs) + length us + 2) None ys g.1));
        shallow = omega (arith, h.shallow, w.shallow, deep-whole b, deep-whole d);
        accepted = ap (λ z. s.accepts kind (kids s.text 0 None z)) (whole-is us) ∙ (ap (s.accepts kind) (kids-same s.text None bx k a m d b ys) ∙ (sym (ap (λ z. s.accepts kind (kids s.text 0 None z)) (whole-is ts)) ∙ h.accepted));
      }

-- ---- the change, told from the node's content on

pub same-parts : {A : Type 0} (xs ys us vs : List A) → length xs ≡ length ys → xs ++ us ≡ ys ++ vs → (xs ≡ ys) × (us ≡ vs)
same-parts [] [] us vs l e = (refl, e)
same-parts [] (y ∷ ys) us vs l e = absurd (omega (arith, l))
same-parts (x ∷ xs) [] us vs l e = absurd (omega (arith, l))
same-parts (x ∷ xs) (y ∷ ys) us vs l e =
    let t : xs ++ us ≡ ys ++ vs = cc in
    let r = same-parts xs ys us vs (omega (arith, l)) t in
    let same : xs ≡ ys = r.0 in
    (cc, r.1)

-- two nodes, each between others, are one node but for their contents
record SameNode (xs xs' ys ys' : List Token) (k k' : ℕ) (a a' : Attrs) (m m' : Marks) : Type 0 where
  front : xs ≡ xs'
  kind : k ≡ k'
  attrs : a ≡ a'
  marks : m ≡ m'
  behind : ys ≡ ys'

module _ (xs xs' ys ys' inner inner' : List Token) (k k' : ℕ) (a a' : Attrs) (m m' : Marks) (from to new_to f t n : ℕ)
    (l : length xs ≡ length xs') (ef : f ≡ length xs + suc from) (et : t ≡ length xs + suc to) (en : n ≡ length xs + suc new_to)
    (order : from ≤ to) (new_order : from ≤ new_to) (in_old : to ≤ length inner) (in_new : new_to ≤ length inner') (left : length inner - to ≡ length inner' - new_to) where
  module _ (c : Changed (xs ++ (node_of k a m inner ++ ys)) (xs' ++ (node_of k' a' m' inner' ++ ys')) f t n) where
    abbrev made : List Token
    made = take from inner ++ (c.put_in ++ drop to inner)

    front-is : take f (xs ++ (node_of k a m inner ++ ys)) ≡ xs ++ (Open k a m ∷ take from inner)
    front-is =
        ap (λ z. take z (xs ++ (node_of k a m inner ++ ys))) ef
        ∙ (take-append-add xs (node_of k a m inner ++ ys) (suc from)
        ∙ ap (λ z. xs ++ (Open k a m ∷ z)) (ap (take from) (append_assoc inner (Close ∷ []) ys) ∙ take-append-le from inner (Close ∷ ys) (omega (arith, order, in_old))))

    back-is : drop t (xs ++ (node_of k a m inner ++ ys)) ≡ drop to inner ++ (Close ∷ ys)
    back-is =
        ap (λ z. drop z (xs ++ (node_of k a m inner ++ ys))) et
        ∙ (drop-append-add xs (node_of k a m inner ++ ys) (suc to)
        ∙ (ap (drop to) (append_assoc inner (Close ∷ []) ys) ∙ drop-append-le to inner (Close ∷ ys) in_old))

    made-is : xs' ++ (Open k' a' m' ∷ (inner' ++ (Close ∷ ys'))) ≡ xs ++ (Open k a m ∷ (made ++ (Close ∷ ys)))
    made-is =
        sym (ap (λ z. xs' ++ (Open k' a' m' ∷ z)) (append_assoc inner' (Close ∷ []) ys'))
        ∙ (c.is
        ∙ (ap (λ z. z ++ (c.put_in ++ drop t (xs ++ (node_of k a m inner ++ ys)))) front-is
        ∙ (ap (λ z. (xs ++ (Open k a m ∷ take from inner)) ++ (c.put_in ++ z)) back-is
        ∙ (append_assoc xs (Open k a m ∷ take from inner) (c.put_in ++ (drop to inner ++ (Close ∷ ys)))
        ∙ (ap (λ z. xs ++ (Open k a m ∷ (take from inner ++ z))) (sym (append_assoc c.put_in (drop to inner) (Close ∷ ys)))
        ∙ ap (λ z. xs ++ (Open k a m ∷ z)) (sym (append_assoc (take from inner) (c.put_in ++ drop to inner) (Close ∷ ys))))))))

    count : from + length c.put_in ≡ new_to
    count = omega (arith, c.ends, ef, en)

    made-length : length inner' ≡ length made
    made-length = omega (arith, count, order, in_old, in_new, left, length-append (take from inner) (c.put_in ++ drop to inner), length-append c.put_in (drop to inner), length-take from inner, length-drop to inner)

    tails : (xs' ≡ xs) × (Open k' a' m' ∷ (inner' ++ (Close ∷ ys')) ≡ Open k a m ∷ (made ++ (Close ∷ ys)))
    tails = same-parts xs' xs _ _ (sym l) made-is

    inners : (inner' ≡ made) × (Close ∷ ys' ≡ Close ∷ ys)
    inners = same-parts inner' made (Close ∷ ys') (Close ∷ ys) made-length (let e = tails.1 in cc)

    same-node : SameNode xs xs' ys ys' k k' a a' m m'
    same-node =
        let e = tails.1 in
        let h : Open k' a' m' ≡ Open k a m = cc in
        let b = inners.1 in
        record { front = sym tails.0; kind = cc; attrs = cc; marks = cc; behind = cc }

    inner-changed : Changed inner inner' from to new_to
    inner-changed = record { put_in = c.put_in; ends = count; is = inners.0 }

  -- what keeps the node's content without a fault keeps the content around it so
  node-keeps : (s : Schema) (kind levels : ℕ) → Balanced xs → Balanced ys → Balanced inner → Balanced inner' → Keeps s k (levels - 1) inner inner' from to new_to
      → Keeps s kind levels (xs ++ (node_of k a m inner ++ ys)) (xs' ++ (node_of k' a' m' inner' ++ ys')) f t n
  node-keeps s kind levels bx by bi bj keep = λ c h.
      let e = same-node c in
      let w = whole-holds s kind levels k a m bx by bi bj h (keep (inner-changed c) (inner-holds s kind levels k a m bx by bi h)) in
      let same : xs ++ (node_of k a m inner' ++ ys) ≡ xs' ++ (node_of k' a' m' inner' ++ ys') = let e0 = e.front in let e1 = e.kind in let e2 = e.attrs in let e3 = e.marks in let e4 = e.behind in cc in
      subst (Holds s kind levels) same w

-- ---- a change told from a node of a list on

module _ (s : Schema) (levels : ℕ) (n n' : Node) (inner inner' : List Token) (from to new_to : ℕ) where
  pub node-kept : n.body ≡ Children inner → n'.body ≡ Children inner' → Balanced inner → Balanced inner' → 0 < from → from ≤ to → from ≤ new_to
      → IsSameBehind (length inner) (to - 1) (length inner') (new_to - 1) → Keeps s n.kind (levels - 1) inner inner' (from - 1) (to - 1) (new_to - 1)
      → NodeKeeps s levels (node_tokens n) (node_tokens n') from to new_to
  node-kept is is' b b' some order new_order behind keep = λ kind xs ys xs' ys' bx by l.
      let P : List Token → List Token → Type 0 = λ u v. Keeps s kind levels (xs ++ (u ++ ys)) (xs' ++ (v ++ ys')) (length xs + from) (length xs + to) (length xs + new_to) in
      let made = node-keeps xs xs' ys ys' inner inner' n.kind n'.kind n.attrs n'.attrs n.marks n'.marks (from - 1) (to - 1) (new_to - 1) (length xs + from) (length xs + to) (length xs + new_to) l
      (omega (arith, some)) (omega (arith, some, order)) (omega (arith, some, new_order)) (omega (arith, some, order)) (omega (arith, some, new_order)) behind.within behind.new_within behind.left s kind levels bx by b b' keep in
      subst (λ u. P u (node_tokens n')) (sym (node_tokens_at n (Children inner) is)) (subst (λ v. P (node_of n.kind n.attrs n.marks inner) v) (sym (node_tokens_at n' (Children inner') is')) made)

pub whole-list : {Z : Type 0} (xs : List (Arc Node Z)) → EachWhole xs → Balanced (list_tokens xs)
whole-list [] w = none
whole-list (x ∷ xs) w = balanced-append (whole-node (arc_value x) w.0) (whole-list xs w.1)

pub each-take : {Z : Type 0} (i : ℕ) (xs : List (Arc Node Z)) → EachWhole xs → EachWhole (take i xs)
each-take zero xs w = tt
each-take (suc i) [] w = tt
each-take (suc i) (x ∷ xs) w = (w.0, each-take i xs w.1)

pub each-drop : {Z : Type 0} (i : ℕ) (xs : List (Arc Node Z)) → EachWhole xs → EachWhole (drop i xs)
each-drop zero xs w = w
each-drop (suc i) [] w = tt
each-drop (suc i) (x ∷ xs) w = each-drop i xs w.1

module _ {Z : Type 0} (xs : List (Arc Node Z)) (i : ℕ) (x : Arc Node Z) (h : i < length xs) (r : x ≡ get_or xs i x) where
  -- the tokens of the first children, of the next one, and of all
  pub front-within : length (list_tokens (take i xs)) + length (node_tokens (arc_value x)) ≤ length (list_tokens xs)
  front-within =
      omega (arith, ap length (list-split xs i x h r), length-append (front xs i) (node_tokens (arc_value x) ++ list_tokens (drop (i + 1) xs)), length-append (node_tokens (arc_value x)) (list_tokens (drop (i + 1) xs)))

  pub front-length : length (list_tokens (take (i + 1) xs)) ≡ length (list_tokens (take i xs)) + length (node_tokens (arc_value x))
  front-length = ap length (front-more xs i x h r) ∙ length-append (front xs i) (node_tokens (arc_value x))

pub list-kept : {Z : Type 0} (s : Schema) (kind levels : ℕ) (xs xs' : List (Arc Node Z)) (i j at : ℕ) (x x' : Arc Node Z) (from to new_to : ℕ)
    → EachWhole xs → IsPlace xs i at → IsPlace xs' j at → x ≡ get_or xs i x → x' ≡ get_or xs' j x' → at < from → from ≤ to → from ≤ new_to
    → NodeKeeps s levels (node_tokens (arc_value x)) (node_tokens (arc_value x')) (from - at) (to - at) (new_to - at)
    → Keeps s kind levels (list_tokens xs) (list_tokens xs') from to new_to
list-kept s kind levels xs xs' i j at x x' from to new_to w p q r r' inside order new_order keep =
    let P : List Token → List Token → Type 0 = λ u v. Keeps s kind levels u v from to new_to in
    let here : length (front xs i) ≡ at = sym p.before in
    let same : length (front xs i) ≡ length (front xs' j) = here ∙ q.before in
    let kept = keep kind (front xs i) (list_tokens (drop (i + 1) xs)) (front xs' j) (list_tokens (drop (j + 1) xs'))
    (whole-list (take i xs) (each-take i xs w)) (whole-list (drop (i + 1) xs) (each-drop (i + 1) xs w)) same in
    let e0 : length (front xs i) + (from - at) ≡ from = omega (arith, here, inside) in
    let e1 : length (front xs i) + (to - at) ≡ to = omega (arith, here, inside, order) in
    let e2 : length (front xs i) + (new_to - at) ≡ new_to = omega (arith, here, inside, new_order) in
    let U : List Token = front xs i ++ (node_tokens (arc_value x) ++ list_tokens (drop (i + 1) xs)) in
    let V : List Token = front xs' j ++ (node_tokens (arc_value x') ++ list_tokens (drop (j + 1) xs')) in
    let k0 = subst (λ z. Keeps s kind levels U V z (length (front xs i) + (to - at)) (length (front xs i) + (new_to - at))) e0 kept in
    let k1 = subst (λ z. Keeps s kind levels U V from z (length (front xs i) + (new_to - at))) e1 k0 in
    let k2 : P U V = subst (λ z. Keeps s kind levels U V from to z) e2 k1 in
    subst (λ u. P u (list_tokens xs')) (sym (list-split xs i x p.within r)) (subst (λ v. P U v) (sym (list-split xs' j x' q.within r')) k2)
