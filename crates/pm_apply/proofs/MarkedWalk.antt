-- A walk over the children of a content that puts them, with the marks in a range changed, one after another.
use Rattle.std.specs.Prelude.{◌≡◌, ℕ, ◌+◌, ◌-◌, ◌≤◌, ◌<◌, List, [], ◌∷◌, ◌++◌, length, drop, get_or}
use Rattle.std.specs.declared.sync.Arc.{Arc}
use Rattle.std.specs.Arc.{arc_value}
use Rattle.std.proofs.Common.{inl, inr, ap, sym, ◌∙◌, subst, arith, length-append}
use Rattle.pm_tokens.specs.Tokens.{Marks, Token}
use Rattle.pm_tokens.specs.Scan.{Balanced, part}
use Rattle.pm_tokens.proofs.BalanceLaws.{balanced-append}
use Rattle.pm_node.specs.declared.node.Node.{Node}
use Rattle.pm_node.specs.Trees.{node_tokens, list_tokens, EachWhole}
use Rattle.pm_node.proofs.WalkLaws.{front, rest, front-more, list-split}
use Rattle.pm_apply.specs.Markings.{marked_in}
use Rattle.pm_apply.proofs.BetweenLaws.{front-is, rest-is, front-rest, behind-range}
use Rattle.pm_apply.proofs.MarkedLaws.{read, read-is, read-none, read-past, read-nodes, read-length}
use Rattle.pm_build.proofs.SpanLaws.{front-whole}

module _ (f : ℕ → Token → Marks → Marks) (parent : ℕ) where
  -- the walk after i children: m is what was made, and start and end are where the range lies in the rest
  pub record Marked {Z : Type 0} (xs : List (Arc Node Z)) (i from to start end : ℕ) (m : List Token) : Type 0 where
    pub made : (ps : List ℕ) → m ≡ read f (parent ∷ ps) from to (front xs i)
    pub starts : start ≡ from - length (front xs i)
    pub ends : end ≡ to - length (front xs i)
    pub whole : Balanced (front xs i)

  module _ {Z : Type 0} (xs : List (Arc Node Z)) (from to : ℕ) (h : from ≤ to) where
    -- the children before the range stay
    pub marked-from : (i before : ℕ) (m a : List Token) → EachWhole xs → before ≡ length (front xs i) → before ≤ from → m ≡ [] → a ≡ m ++ list_tokens (part 0 i xs) → Marked xs i from to (from - before) (to - before) a
    marked-from i before m a w e l z k = record {
      made = λ ps. k ∙ (ap (λ t. t ++ list_tokens (part 0 i xs)) z ∙ (front-is xs i ∙ sym (read-past f (parent ∷ ps) from to (front xs i) (omega (arith, e, l)))));
      starts = omega (arith, e);
      ends = omega (arith, e);
      whole = front-whole xs i w;
    }

    pub marked-more : (i s e n s' e' : ℕ) (x : Arc Node Z) (m a : List Token) → Marked xs i from to s e m → i < length xs → x ≡ get_or xs i x → Balanced (node_tokens (arc_value x)) → n ≡ length (node_tokens (arc_value x))
        → ((ps : List ℕ) → a ≡ m ++ marked_in f (parent ∷ ps) s e (node_tokens (arc_value x))) → s' ≡ s - n → e' ≡ e - n → Marked xs (i + 1) from to s' e' a
    marked-more i s e n s' e' x m a w k r bal ln tokens es ee =
        let ts = node_tokens (arc_value x) in
        let g : front xs (i + 1) ≡ front xs i ++ ts = front-more xs i x k r in
        let o : s ≤ e = omega (arith, w.starts, w.ends, h) in
        record {
          made = λ ps.
              tokens ps
              ∙ (ap (λ z. z ++ marked_in f (parent ∷ ps) s e ts) (w.made ps)
              ∙ (ap (λ z. read f (parent ∷ ps) from to (front xs i) ++ z) (read-is f (parent ∷ ps) s e ts o)
              ∙ (ap (λ z. read f (parent ∷ ps) from to (front xs i) ++ read f (parent ∷ ps) z e ts) w.starts
              ∙ (ap (λ z. read f (parent ∷ ps) from to (front xs i) ++ read f (parent ∷ ps) (from - length (front xs i)) z ts) w.ends
              ∙ (sym (read-nodes f (parent ∷ ps) from to (front xs i) ts w.whole) ∙ ap (read f (parent ∷ ps) from to) (sym g))))));
          starts = omega (arith, es, ln, w.starts, ap length g, length-append (front xs i) ts);
          ends = omega (arith, ee, ln, w.ends, ap length g, length-append (front xs i) ts);
          whole = subst Balanced (sym g) (balanced-append w.whole bal);
        }

    -- and so do those after it
    pub marked-end : (i s e n : ℕ) (m a : List Token) → Marked xs i from to s e m → n ≡ length xs → i ≤ n → (i < length xs → to ≤ length (front xs i)) → a ≡ m ++ list_tokens (part i n xs)
        → (ps : List ℕ) → a ≡ marked_in f (parent ∷ ps) from to (list_tokens xs)
    marked-end i s e n m a w l k stop g ps =
        let qs = parent ∷ ps in
        let behind : read f qs (from - length (front xs i)) (to - length (front xs i)) (rest xs i) ≡ rest xs i = elim (behind-range xs i from to h stop) [
          | inl p ↦ read-none f qs (from - length (front xs i)) (to - length (front xs i)) (rest xs i) p
          | inr p ↦ ap (read f qs (from - length (front xs i)) (to - length (front xs i))) p ∙ sym p
        ] in
        g ∙ (ap (λ z. m ++ z) (rest-is xs i n l k) ∙ (ap (λ z. z ++ rest xs i) (w.made ps)
        ∙ (ap (λ z. read f qs from to (front xs i) ++ z) (sym behind)
        ∙ (sym (read-nodes f qs from to (front xs i) (rest xs i) w.whole)
        ∙ (ap (read f qs from to) (sym (front-rest xs i)) ∙ sym (read-is f qs from to (list_tokens xs) h))))))

    -- what is made is as long as what it is made of
    pub marked-size : (i s e : ℕ) (m : List Token) → Marked xs i from to s e m → length m ≡ length (front xs i)
    marked-size i s e m w = ap length (w.made []) ∙ read-length f (parent ∷ []) from to (front xs i)

    -- what is made has room
    pub marked-room : (i s e : ℕ) (x : Arc Node Z) (m : List Token) → Marked xs i from to s e m → i < length xs → x ≡ get_or xs i x → length m + length (node_tokens (arc_value x)) ≤ length (list_tokens xs)
    marked-room i s e x m w k r =
        let ts = node_tokens (arc_value x) in
        let rest = list_tokens (drop (i + 1) xs) in
        omega (arith, ap length (w.made []), read-length f (parent ∷ []) from to (front xs i), ap length (list-split xs i x k r), length-append (front xs i) (ts ++ rest), length-append ts rest)

    pub marked-order : (i s e : ℕ) (m : List Token) → Marked xs i from to s e m → s ≤ e
    marked-order i s e m w = omega (arith, w.starts, w.ends, h)
