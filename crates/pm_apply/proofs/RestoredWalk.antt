-- A walk over the children of a content that tells whether a marking, after another one, gives their marks back.
use Rattle.std.specs.Prelude.{◌≡◌, ℕ, ◌+◌, ◌-◌, ◌≤◌, ◌<◌, Bool, true, false, List, [], ◌∷◌, ◌++◌, length, drop, get_or}
use Rattle.std.specs.declared.sync.Arc.{Arc}
use Rattle.std.specs.Arc.{arc_value}
use Rattle.std.proofs.Common.{inl, inr, refl, ap, sym, ◌∙◌, subst, arith, length-append}
use Rattle.pm_attrs.specs.Attrs.{same_attrs}
use Rattle.pm_marks.specs.Sets.{same_marks}
use Rattle.pm_tokens.specs.Tokens.{Marks, Token, Open, Leaf, CodeUnit}
use Rattle.pm_tokens.specs.Scan.{Balanced}
use Rattle.pm_tokens.specs.Schemas.{Schema}
use Rattle.pm_tokens.proofs.BalanceLaws.{balanced-append}
use Rattle.pm_node.specs.declared.node.Node.{Node}
use Rattle.pm_node.specs.declared.node.Body.TheVariants.{Text, Leaf as Childless, Children}
use Rattle.pm_node.specs.Trees.{node_tokens, list_tokens, EachWhole}
use Rattle.pm_node.proofs.TreeLaws.{node_tokens_at, length-text_tokens}
use Rattle.pm_node.proofs.WalkLaws.{front, rest, front-more, list-split}
use Rattle.pm_meaning.specs.Inverses.{same_tokens}
use Rattle.pm_meaning.specs.Marked.{takes_marks, is_inline_token, starts_node}
use Rattle.pm_step.specs.declared.marking.Marking.{Marking}
use Rattle.pm_apply.specs.declared.marking.Sort.{Sort}
use Rattle.pm_apply.specs.declared.marking.Reach.TheVariants.{Inline}
use Rattle.pm_apply.specs.Markings.{new_marks, sort_marks}
use Rattle.pm_apply.specs.Backs.{marked_twice, twice}
use Rattle.pm_apply.proofs.BetweenLaws.{front-rest, behind-range}
use Rattle.pm_apply.proofs.MarkedLaws.{read-none, read-past}
use Rattle.pm_apply.proofs.MarkedNodes.{sort-is}
use Rattle.pm_apply.proofs.SameTokens.{tokens-itself}
use Rattle.pm_apply.proofs.TwiceLaws.{twice-is, kept, kept-more, lost-part, kept-leaf, kept-node, lost-node, kept-text}
use Rattle.pm_build.proofs.SpanLaws.{front-whole}

module _ (s : Schema) (m b : Marking) where
  -- the tokens are the old ones
  abbrev pub are_back : List ℕ → ℕ → ℕ → List Token → Bool
  are_back ps from to ts = same_tokens (marked_twice s m b ps from to ts) ts

  back-is : (ps : List ℕ) (from to : ℕ) (ts : List Token) → from ≤ to → are_back ps from to ts ≡ kept (twice s m b) ps from to ts
  back-is ps from to ts h = ap (λ z. same_tokens z ts) (twice-is s m b ps from to ts h)

  module _ (parent : ℕ) where
    -- ---- the walk after i children, where start..end is the range in the rest

    pub record Restored {Z : Type 0} (xs : List (Arc Node Z)) (i from to start end : ℕ) : Type 0 where
      pub same : (ps : List ℕ) → kept (twice s m b) (parent ∷ ps) from to (front xs i) ≡ true
      pub starts : start ≡ from - length (front xs i)
      pub ends : end ≡ to - length (front xs i)
      pub whole : Balanced (front xs i)

    module _ {Z : Type 0} (xs : List (Arc Node Z)) (from to : ℕ) (h : from ≤ to) where
      -- the children before the range
      pub restored-from : (i before : ℕ) → EachWhole xs → before ≡ length (front xs i) → before ≤ from → Restored xs i from to (from - before) (to - before)
      restored-from i before w e l = record {
        same = λ ps.
            ap (λ z. same_tokens z (front xs i)) (read-past (twice s m b) (parent ∷ ps) from to (front xs i) (omega (arith, e, l))) ∙ tokens-itself (front xs i);
        starts = omega (arith, e);
        ends = omega (arith, e);
        whole = front-whole xs i w;
      }

      pub restored-order : (i st e : ℕ) → Restored xs i from to st e → st ≤ e
      restored-order i st e w = omega (arith, w.starts, w.ends, h)

      -- what was found out of a child
      found : (i st e : ℕ) (n : Node) (x : Arc Node Z) (k : Bool) → Restored xs i from to st e → n ≡ arc_value x
          → ((ps : List ℕ) → k ≡ are_back (parent ∷ ps) st e (node_tokens n))
          → (ps : List ℕ) → kept (twice s m b) (parent ∷ ps) (from - length (front xs i)) (to - length (front xs i)) (node_tokens (arc_value x)) ≡ k
      found i st e n x k w q f ps =
          let ts = node_tokens (arc_value x) in
          ap (λ z. kept (twice s m b) (parent ∷ ps) z (to - length (front xs i)) ts) (sym w.starts)
          ∙ (ap (λ z. kept (twice s m b) (parent ∷ ps) st z ts) (sym w.ends)
          ∙ (sym (back-is (parent ∷ ps) st e ts (restored-order i st e w))
          ∙ (ap (λ z. are_back (parent ∷ ps) st e (node_tokens z)) (sym q) ∙ sym (f ps))))

      pub restored-more : (i st e size st' e' : ℕ) (n : Node) (x : Arc Node Z) (k : Bool) → Restored xs i from to st e → i < length xs → x ≡ get_or xs i x → n ≡ arc_value x
          → Balanced (node_tokens (arc_value x)) → size ≡ length (node_tokens (arc_value x))
          → ((ps : List ℕ) → k ≡ are_back (parent ∷ ps) st e (node_tokens n)) → k ≡ true
          → st' ≡ st - size → e' ≡ e - size → Restored xs (i + 1) from to st' e'
      restored-more i st e size st' e' n x k w l r q bal sz f t es ee =
          let ts = node_tokens (arc_value x) in
          let g : front xs (i + 1) ≡ front xs i ++ ts = front-more xs i x l r in
          record {
            same = λ ps.
                ap (kept (twice s m b) (parent ∷ ps) from to) g
                ∙ kept-more (twice s m b) (parent ∷ ps) from to (front xs i) ts w.whole (w.same ps) (found i st e n x k w q f ps ∙ t);
            starts = omega (arith, es, sz, w.starts, ap length g, length-append (front xs i) ts);
            ends = omega (arith, ee, sz, w.ends, ap length g, length-append (front xs i) ts);
            whole = subst Balanced (sym g) (balanced-append w.whole bal);
          }

      module _ (content : List Token) (all : list_tokens xs ≡ content) where
        decided : (k : Bool) → ((ps : List ℕ) → kept (twice s m b) (parent ∷ ps) from to (list_tokens xs) ≡ k) → (ps : List ℕ) → k ≡ are_back (parent ∷ ps) from to content
        decided k f ps = sym (ap (are_back (parent ∷ ps) from to) (sym all) ∙ (back-is (parent ∷ ps) from to (list_tokens xs) h ∙ f ps))

        pub restored-lost : (i st e : ℕ) (n : Node) (x : Arc Node Z) (k : Bool) → Restored xs i from to st e → i < length xs → x ≡ get_or xs i x → n ≡ arc_value x
            → Balanced (node_tokens (arc_value x))
            → ((ps : List ℕ) → k ≡ are_back (parent ∷ ps) st e (node_tokens n)) → k ≡ false → (ps : List ℕ) → false ≡ are_back (parent ∷ ps) from to content
        restored-lost i st e n x k w l r q bal f t = decided false
            (λ ps.
            ap (kept (twice s m b) (parent ∷ ps) from to) (list-split xs i x l r)
            ∙ lost-part (twice s m b) (parent ∷ ps) from to (front xs i) (node_tokens (arc_value x)) (list_tokens (drop (i + 1) xs)) w.whole bal (found i st e n x k w q f ps ∙ t))

        -- and those after it
        pub restored-end : (i st e : ℕ) → Restored xs i from to st e → (i < length xs → to ≤ length (front xs i)) → (ps : List ℕ) → true ≡ are_back (parent ∷ ps) from to content
        restored-end i st e w stop = decided true
            (λ ps.
            let n = length (front xs i) in
            let behind : kept (twice s m b) (parent ∷ ps) (from - n) (to - n) (rest xs i) ≡ true = elim (behind-range xs i from to h stop) [
              | inl p ↦ (ap (λ z. same_tokens z (rest xs i)) (read-none (twice s m b) (parent ∷ ps) (from - n) (to - n) (rest xs i) p) ∙ tokens-itself (rest xs i))
              | inr p ↦ ap (kept (twice s m b) (parent ∷ ps) (from - n) (to - n)) p
            ] in
            ap (kept (twice s m b) (parent ∷ ps) from to) (front-rest xs i) ∙ kept-more (twice s m b) (parent ∷ ps) from to (front xs i) (rest xs i) w.whole (w.same ps) behind)

    -- ---- one node

    module _ (from to : ℕ) (h : from ≤ to) where
      pub back-none : (ts : List Token) → to ≤ from → (ps : List ℕ) → true ≡ are_back (parent ∷ ps) from to ts
      back-none ts i ps =
          sym (back-is (parent ∷ ps) from to ts h ∙ (ap (λ z. same_tokens z ts) (read-none (twice s m b) (parent ∷ ps) from to ts i) ∙ tokens-itself ts))

      pub back-past : (ts : List Token) → length ts ≤ from → (ps : List ℕ) → true ≡ are_back (parent ∷ ps) from to ts
      back-past ts i ps =
          sym (back-is (parent ∷ ps) from to ts h ∙ (ap (λ z. same_tokens z ts) (read-past (twice s m b) (parent ∷ ps) from to ts i) ∙ tokens-itself ts))

      pub back-text : (n : Node) (us : List ℕ) (k : Bool) → n.body ≡ Text us → from < to → from < length (node_tokens n)
          → k ≡ same_marks same_attrs (twice s m b parent (CodeUnit 0 n.marks) n.marks) n.marks
          → (ps : List ℕ) → k ≡ are_back (parent ∷ ps) from to (node_tokens n)
      back-text n us k e i j q ps =
          let is = node_tokens_at n (Text us) e in
          let l : from < length us = omega (arith, j, ap length is, length-text_tokens n.marks us) in
          q ∙ sym (ap (are_back (parent ∷ ps) from to) is ∙ (back-is (parent ∷ ps) from to _ h
          ∙ kept-text (twice s m b) (parent ∷ ps) n.marks (twice s m b parent (CodeUnit 0 n.marks) n.marks) (λ u. refl) from to us i l))

      pub back-leaf : (n : Node) (k : Bool) → n.body ≡ Childless → from < to → from < length (node_tokens n)
          → k ≡ same_marks same_attrs (twice s m b parent (Leaf n.kind n.attrs n.marks) n.marks) n.marks
          → (ps : List ℕ) → k ≡ are_back (parent ∷ ps) from to (node_tokens n)
      back-leaf n k e i j q ps =
          let is = node_tokens_at n Childless e in
          let l : from < 1 = omega (arith, j, ap length is) in
          q ∙ sym (ap (are_back (parent ∷ ps) from to) is ∙ (back-is (parent ∷ ps) from to _ h
          ∙ kept-leaf (twice s m b) (parent ∷ ps) from to n.kind n.attrs n.marks i l))

      module _ (n : Node) (inner : List Token) (e : n.body ≡ Children inner) (bal : Balanced inner) (i : from < to) where
        pub back-lost : from ≡ 0 → same_marks same_attrs (twice s m b parent (Open n.kind n.attrs n.marks) n.marks) n.marks ≡ false
            → (ps : List ℕ) → false ≡ are_back (parent ∷ ps) from to (node_tokens n)
        back-lost z q ps =
            let is = node_tokens_at n (Children inner) e in
            sym (ap (are_back (parent ∷ ps) from to) is ∙ (back-is (parent ∷ ps) from to _ h
            ∙ lost-node (twice s m b) (parent ∷ ps) n.kind n.attrs n.marks inner bal from to z (omega (arith, i)) q))

        pub back-inner : (k : Bool) (st e' : ℕ) → (from ≡ 0 → same_marks same_attrs (twice s m b parent (Open n.kind n.attrs n.marks) n.marks) n.marks ≡ true)
            → st ≡ from - 1 → e' ≡ to - 1 → ((qs : List ℕ) → k ≡ are_back (n.kind ∷ qs) st e' inner)
            → (ps : List ℕ) → k ≡ are_back (parent ∷ ps) from to (node_tokens n)
        back-inner k st e' z es ee f ps =
            let is = node_tokens_at n (Children inner) e in
            let o : st ≤ e' = omega (arith, es, ee, h) in
            f (parent ∷ ps)
            ∙ (back-is (n.kind ∷ parent ∷ ps) st e' inner o
            ∙ (ap (λ x. kept (twice s m b) (n.kind ∷ parent ∷ ps) x e' inner) es
            ∙ (ap (λ x. kept (twice s m b) (n.kind ∷ parent ∷ ps) (from - 1) x inner) ee
            ∙ sym (ap (are_back (parent ∷ ps) from to) is ∙ (back-is (parent ∷ ps) from to _ h
            ∙ kept-node (twice s m b) (parent ∷ ps) n.kind n.attrs n.marks inner bal from to z)))))

    -- the marks of a token of a sort, changed and changed back
    pub sort-twice : (k : Sort) (t : Token) (old : Marks) → k.takes ≡ takes_marks s t → k.inline ≡ is_inline_token s t → k.node ≡ starts_node (t ∷ [])
        → sort_marks s b Inline k parent (sort_marks s m Inline k parent old) ≡ twice s m b parent t old
    sort-twice k t old e f g =
        ap (sort_marks s b Inline k parent) (sort-is s m Inline k parent t old e f g) ∙ sort-is s b Inline k parent t (new_marks s m Inline parent t old) e f g
