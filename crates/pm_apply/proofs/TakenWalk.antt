-- A walk over the children of a content that takes their tokens into runs.
use Rattle.std.specs.Prelude.{◌≡◌, ℕ, ◌+◌, ◌-◌, ◌≤◌, ◌<◌, Bool, true, List, [], ◌∷◌, ◌++◌, length, take, drop, get_or, min, None, Result, Ok, Err, OnOk}
use Rattle.std.specs.declared.sync.Arc.{Arc}
use Rattle.std.specs.Arc.{arc_value}
use Rattle.std.proofs.Common.{zero, suc, inl, inr, refl, ap, sym, ◌∙◌, subst, arith, length-append, length-take, length-drop}
use Rattle.std.proofs.lemmas.Bool.{cases_lt}
use Rattle.std.proofs.lemmas.List.{take-append-drop}
use Rattle.pm_tokens.specs.Tokens.{Marks, Token, Open, Close, Leaf, CodeUnit}
use Rattle.pm_tokens.specs.Kids.{text_tokens}
use Rattle.pm_tokens.specs.Scan.{Balanced, part}
use Rattle.pm_tokens.specs.Schemas.{Schema}
use Rattle.pm_tokens.proofs.BalanceLaws.{balanced-append}
use Rattle.pm_tokens.proofs.OwnedParts.{length-part}
use Rattle.pm_tokens.proofs.PartLaws.{drop-part}
use Rattle.pm_node.specs.declared.node.Node.{Node}
use Rattle.pm_node.specs.declared.node.Body.TheVariants.{Text, Leaf as Childless, Children}
use Rattle.pm_node.specs.Trees.{node_tokens, list_tokens, EachWhole}
use Rattle.pm_node.proofs.TreeLaws.{node_tokens_at, length-text_tokens, text_tokens-append}
use Rattle.pm_node.proofs.WalkLaws.{front, rest, front-more, list-split}
use Rattle.pm_meaning.specs.Marked.{takes_marks}
use Rattle.pm_meaning.specs.Runs.{close_run, continues, due, next_run}
use Rattle.pm_apply.specs.declared.runs.Runs.{Runs}
use Rattle.pm_step.specs.declared.marking.Marking.{Marking}
use Rattle.pm_apply.specs.declared.marking.Reach.TheVariants.{Inline}
use Rattle.pm_apply.specs.Markings.{marked_in, new_marks}
use Rattle.pm_apply.specs.Walks.{Took, run_of}
use Rattle.pm_apply.proofs.BetweenLaws.{front-rest, behind-range}
use Rattle.pm_apply.proofs.MarkedLaws.{read, read-is, read-none, read-past, read-nodes, read-node, read-length, in_range}
use Rattle.pm_apply.proofs.MarkedNodes.{marked-none, marked-past, marked-text, marked-leaf}
use Rattle.pm_apply.proofs.DueLaws.{differ, due-same, after-same, Due, due-both, due-units, due-token}
use Rattle.pm_build.proofs.SpanLaws.{front-whole}

-- two facts on an Ok value, together
pub on-both : {T E P Q R : Type 0} (r : Result T E) → (P → Q → R) → OnOk r P → OnOk r Q → OnOk r R
on-both (Ok x) f p q = f p q
on-both (Err e) f p q = p

module _ (s : Schema) where
  abbrev taken : ℕ → List Token → List Token → Runs → Runs → Type 0
  taken p ts ns old new = Due s p (run_of old.run) (run_of new.run) ts ns old.steps.items new.steps.items

  to-due : (p : ℕ) (ts ns : List Token) (old new : Runs) → Took s p ts ns old new → taken p ts ns old new
  to-due p ts ns old new w = record { steps = w.steps; end = w.run }

  of-due : (p : ℕ) (ts ns : List Token) (old new : Runs) → taken p ts ns old new → Took s p ts ns old new
  of-due p ts ns old new w = record { steps = w.steps; run = w.end }

  pub took-both : (p q : ℕ) (xs xs' ys ys' : List Token) (r₀ r₁ r₂ : Runs) → length xs' ≡ length xs → q ≡ p + length xs
      → Took s p xs xs' r₀ r₁ → Took s q ys ys' r₁ r₂ → Took s p (xs ++ ys) (xs' ++ ys') r₀ r₂
  took-both p q xs xs' ys ys' r₀ r₁ r₂ l e v w =
      of-due p (xs ++ ys) (xs' ++ ys') r₀ r₂
      (due-both s p q (run_of r₀.run) (run_of r₁.run) (run_of r₂.run) xs xs' ys ys' r₀.steps.items r₁.steps.items r₂.steps.items l e (to-due p xs xs' r₀ r₁ v) (to-due q ys ys' r₁ r₂ w))

  -- tokens that stay, and end the run
  pub passed : (at count : ℕ) (old new : Runs) → (count ≡ 0 → ⊥) → new.steps.items ≡ old.steps.items ++ close_run (run_of old.run) at → new.run ≡ None
      → (ts : List Token) → length ts ≡ count → Took s at ts ts old new
  passed at count old new some x y ts n =
      let l : 0 < length ts = elim (cases_lt 0 (length ts)) [ inl p ↦ p | inr p ↦ absurd (some (omega (arith, p, n))) ] in
      record {
        steps = x ∙ ap (λ z. old.steps.items ++ z) (sym (due-same s at (run_of old.run) ts l));
        run = ap run_of y ∙ sym (after-same s at (run_of old.run) ts l);
      }

  module _ (m : Marking) (parent : ℕ) where
    abbrev f : ℕ → Token → Marks → Marks
    f = new_marks s m Inline

    -- ---- the walk after i children: start..end is the range in the rest, and place the position of the next child

    pub record Taken {Z : Type 0} (xs : List (Arc Node Z)) (i at from to place start end : ℕ) (old new : Runs) : Type 0 where
      pub took : (ps : List ℕ) → Took s at (front xs i) (read f (parent ∷ ps) from to (front xs i)) old new
      pub starts : start ≡ from - length (front xs i)
      pub ends : end ≡ to - length (front xs i)
      pub stands : place ≡ at + length (front xs i)
      pub whole : Balanced (front xs i)

    module _ {Z : Type 0} (xs : List (Arc Node Z)) (at from to : ℕ) (old : Runs) (h : from ≤ to) where
      -- the children before the range pass
      pub taken-from : (i before place : ℕ) (new : Runs) → EachWhole xs → before ≡ length (front xs i) → before ≤ from → place ≡ at + before → ((ts : List Token) → length ts ≡ before → Took s at ts ts old new)
          → Taken xs i at from to place (from - before) (to - before) old new
      taken-from i before place new w e l p k = record {
        took = λ ps. subst (λ (z : List Token). Took s at (front xs i) z old new) (sym (read-past f (parent ∷ ps) from to (front xs i) (omega (arith, e, l)))) (k (front xs i) (sym e));
        starts = omega (arith, e);
        ends = omega (arith, e);
        stands = omega (arith, e, p);
        whole = front-whole xs i w;
      }

      pub taken-order : (i place st e : ℕ) (mid : Runs) → Taken xs i at from to place st e old mid → st ≤ e
      taken-order i place st e mid w = omega (arith, w.starts, w.ends, h)

      pub taken-more : (i place st e size place' st' e' : ℕ) (n : Node) (x : Arc Node Z) (mid new : Runs) → Taken xs i at from to place st e old mid
          → i < length xs → x ≡ get_or xs i x → n ≡ arc_value x → Balanced (node_tokens (arc_value x)) → size ≡ length (node_tokens (arc_value x))
          → ((ps : List ℕ) → Took s place (node_tokens n) (marked_in f (parent ∷ ps) st e (node_tokens n)) mid new)
          → place' ≡ place + size → st' ≡ st - size → e' ≡ e - size → Taken xs (i + 1) at from to place' st' e' old new
      taken-more i place st e size place' st' e' n x mid new w l r q bal sz k ep es ee =
          let ts = node_tokens (arc_value x) in
          let o : st ≤ e = taken-order i place st e mid w in
          let g : front xs (i + 1) ≡ front xs i ++ ts = front-more xs i x l r in
          record {
            took = λ ps.
                let qs = parent ∷ ps in
                let a = front xs i in
                let here : Took s place ts (marked_in f qs st e ts) mid new = subst (λ (z : Node). Took s place (node_tokens z) (marked_in f qs st e (node_tokens z)) mid new) q (k ps) in
                let is : marked_in f qs st e ts ≡ read f qs (from - length a) (to - length a) ts =
                read-is f qs st e ts o ∙ (ap (λ z. read f qs z e ts) w.starts ∙ ap (λ z. read f qs (from - length a) z ts) w.ends) in
                let both = took-both at place a (read f qs from to a) ts (read f qs (from - length a) (to - length a) ts) old mid new
                (read-length f qs from to a) w.stands (w.took ps) (subst (λ (z : List Token). Took s place ts z mid new) is here) in
                subst (λ (z : List Token). Took s at z (read f qs from to z) old new) (sym g)
                (subst (λ (z : List Token). Took s at (a ++ ts) z old new) (sym (read-nodes f qs from to a ts w.whole)) both);
            starts = omega (arith, es, sz, w.starts, ap length g, length-append (front xs i) ts);
            ends = omega (arith, ee, sz, w.ends, ap length g, length-append (front xs i) ts);
            stands = omega (arith, ep, sz, w.stands, ap length g, length-append (front xs i) ts);
            whole = subst Balanced (sym g) (balanced-append w.whole bal);
          }

      -- the next child has room
      pub taken-room : (i place st e : ℕ) (x : Arc Node Z) (mid : Runs) → Taken xs i at from to place st e old mid → i < length xs → x ≡ get_or xs i x
          → place + length (node_tokens (arc_value x)) ≤ at + length (list_tokens xs)
      taken-room i place st e x mid w l r =
          let ts = node_tokens (arc_value x) in
          let behind = list_tokens (drop (i + 1) xs) in
          omega (arith, w.stands, ap length (list-split xs i x l r), length-append (front xs i) (ts ++ behind), length-append ts behind)

      -- how many tokens are left
      pub taken-left : (i place st e : ℕ) (mid : Runs) → Taken xs i at from to place st e old mid → place + length (rest xs i) ≡ at + length (list_tokens xs)
      taken-left i place st e mid w = omega (arith, w.stands, ap length (front-rest xs i), length-append (front xs i) (rest xs i))

      -- and so do those after it
      pub taken-end : (i place st e count : ℕ) (mid new : Runs) (content : List Token) → Taken xs i at from to place st e old mid → (i < length xs → to ≤ length (front xs i))
          → count ≡ (at + length (list_tokens xs)) - place → ((ts : List Token) → length ts ≡ count → Took s place ts ts mid new) → list_tokens xs ≡ content
          → (ps : List ℕ) → Took s at content (marked_in f (parent ∷ ps) from to content) old new
      taken-end i place st e count mid new content w stop n k all ps =
          let qs = parent ∷ ps in
          let a = front xs i in
          let b = rest xs i in
          let same : read f qs (from - length a) (to - length a) b ≡ b = elim (behind-range xs i from to h stop) [
            | inl p ↦ read-none f qs (from - length a) (to - length a) b p
            | inr p ↦ ap (read f qs (from - length a) (to - length a)) p ∙ sym p
          ] in
          let both : Took s at (a ++ b) (read f qs from to a ++ b) old new =
          took-both at place a (read f qs from to a) b b old mid new (read-length f qs from to a) w.stands (w.took ps) (k b (omega (arith, n, taken-left i place st e mid w))) in
          let is : read f qs from to a ++ b ≡ marked_in f qs from to content =
          ap (λ z. read f qs from to a ++ z) (sym same) ∙ (sym (read-nodes f qs from to a b w.whole)
          ∙ (sym (read-is f qs from to (a ++ b) h) ∙ ap (marked_in f qs from to) (sym (front-rest xs i) ∙ all))) in
          subst (λ (z : List Token). Took s at z (marked_in f qs from to content) old new) (sym (front-rest xs i) ∙ all)
          (subst (λ (z : List Token). Took s at (a ++ b) z old new) is both)

    -- ---- one node

    module _ (at from to : ℕ) (h : from ≤ to) where
      pub took-none : (ts : List Token) (old new : Runs) → to ≤ from → Took s at ts ts old new → (ps : List ℕ) → Took s at ts (marked_in f (parent ∷ ps) from to ts) old new
      took-none ts old new i w ps = subst (λ (z : List Token). Took s at ts z old new) (sym (marked-none f parent ps from to ts h i)) w

      pub took-past : (ts : List Token) (old new : Runs) → length ts ≤ from → Took s at ts ts old new → (ps : List ℕ) → Took s at ts (marked_in f (parent ∷ ps) from to ts) old new
      took-past ts old new i w ps = subst (λ (z : List Token). Took s at ts z old new) (sym (marked-past f parent ps from to ts h i)) w

      pub took-leaf : (n : Node) (g : Marks) (takes : Bool) (old new : Runs) → n.body ≡ Childless → from < to → from < length (node_tokens n)
          → f parent (Leaf n.kind n.attrs n.marks) n.marks ≡ g → takes ≡ s.is_inline n.kind
          → new.steps.items ≡ old.steps.items ++ due (differ n.marks g) takes (continues (run_of old.run) n.marks g) (run_of old.run) at n.marks g
          → run_of new.run ≡ next_run (differ n.marks g) takes (continues (run_of old.run) n.marks g) (run_of old.run) at n.marks g
          → (ps : List ℕ) → Took s at (node_tokens n) (marked_in f (parent ∷ ps) from to (node_tokens n)) old new
      took-leaf n g takes old new e i j same k x y ps =
          let t = Leaf n.kind n.attrs n.marks in
          let made = marked-leaf f parent ps n g from to e i j same in
          let one = of-due at (t ∷ []) (Leaf n.kind n.attrs g ∷ []) old new
          (due-token s t (Leaf n.kind n.attrs g) takes at (run_of old.run) (run_of new.run) old.steps.items new.steps.items k x y) in
          subst (λ (z : List Token). Took s at (node_tokens n) z old new) made
          (subst (λ (z : List Token). Took s at z (Leaf n.kind n.attrs g ∷ []) old new) (sym (node_tokens_at n Childless e)) one)

      in-first : (a b : ℕ) (ps : List ℕ) (t : Token) → a < b → in_range f a (a + 1) ps t ≡ in_range f a b ps t
      in-first zero zero ps t i = absurd (omega (arith, i))
      in-first zero (suc b) ps t i = refl
      in-first (suc a) b ps t i = refl

      pub took-node : (n : Node) (inner : List Token) (st e' end : ℕ) (r₀ r₁ r₂ r₃ : Runs) → n.body ≡ Children inner → Balanced inner → from < to
          → ((ps : List ℕ) → Took s at (Open n.kind n.attrs n.marks ∷ []) (marked_in f (parent ∷ ps) from (from + 1) (Open n.kind n.attrs n.marks ∷ [])) r₀ r₁)
          → st ≡ from - 1 → e' ≡ to - 1 → ((qs : List ℕ) → Took s (at + 1) inner (marked_in f (n.kind ∷ qs) st e' inner) r₁ r₂)
          → end ≡ at + 1 + length inner → Took s end (Close ∷ []) (Close ∷ []) r₂ r₃
          → (ps : List ℕ) → Took s at (node_tokens n) (marked_in f (parent ∷ ps) from to (node_tokens n)) r₀ r₃
      took-node n inner st e' end r₀ r₁ r₂ r₃ e bal i op es ee inn en cl ps =
          let qs = parent ∷ ps in
          let t = Open n.kind n.attrs n.marks in
          let c : List Token = Close ∷ [] in
          let made = read f (n.kind ∷ qs) (from - 1) (to - 1) inner in
          let head : marked_in f qs from (from + 1) (t ∷ []) ≡ in_range f from to qs t ∷ [] =
          read-is f qs from (from + 1) (t ∷ []) (omega arith) ∙ ap (λ z. z ∷ []) (in-first from to qs t i) in
          let first : Took s at (t ∷ []) (in_range f from to qs t ∷ []) r₀ r₁ = subst (λ (z : List Token). Took s at (t ∷ []) z r₀ r₁) head (op ps) in
          let is : marked_in f (n.kind ∷ qs) st e' inner ≡ made =
          read-is f (n.kind ∷ qs) st e' inner (omega (arith, es, ee, h))
          ∙ (ap (λ z. read f (n.kind ∷ qs) z e' inner) es ∙ ap (λ z. read f (n.kind ∷ qs) (from - 1) z inner) ee) in
          let mid : Took s (at + 1) inner made r₁ r₂ = subst (λ (z : List Token). Took s (at + 1) inner z r₁ r₂) is (inn qs) in
          let last : Took s (at + 1) (inner ++ c) (made ++ c) r₁ r₃ =
          took-both (at + 1) end inner made c c r₁ r₂ r₃ (read-length f (n.kind ∷ qs) (from - 1) (to - 1) inner) en mid cl in
          let all : Took s at (t ∷ (inner ++ c)) (in_range f from to qs t ∷ (made ++ c)) r₀ r₃ =
          took-both at (at + 1) (t ∷ []) (in_range f from to qs t ∷ []) (inner ++ c) (made ++ c) r₀ r₁ r₃ refl refl first last in
          let ns : in_range f from to qs t ∷ (made ++ c) ≡ marked_in f qs from to (node_tokens n) =
          sym (read-node f qs from to n.kind n.attrs n.marks inner bal)
          ∙ (sym (read-is f qs from to (t ∷ (inner ++ c)) h) ∙ ap (marked_in f qs from to) (sym (node_tokens_at n (Children inner) e))) in
          subst (λ (z : List Token). Took s at (node_tokens n) z r₀ r₃) ns
          (subst (λ (z : List Token). Took s at z (in_range f from to qs t ∷ (made ++ c)) r₀ r₃) (sym (node_tokens_at n (Children inner) e)) all)

      pub took-text : (n : Node) (us : List ℕ) (g : Marks) (len end : ℕ) (r₀ r₁ r₂ r₃ : Runs) → n.body ≡ Text us → from < to → from < length (node_tokens n)
          → len ≡ length us → end ≡ min len to → f parent (CodeUnit 0 n.marks) n.marks ≡ g
          → ((ts : List Token) → length ts ≡ from → Took s at ts ts r₀ r₁)
          → r₂.steps.items ≡ r₁.steps.items ++ due (differ n.marks g) true (continues (run_of r₁.run) n.marks g) (run_of r₁.run) (at + from) n.marks g
          → run_of r₂.run ≡ next_run (differ n.marks g) true (continues (run_of r₁.run) n.marks g) (run_of r₁.run) (at + from) n.marks g
          → ((ts : List Token) → length ts ≡ len - end → Took s (at + end) ts ts r₂ r₃)
          → (ps : List ℕ) → Took s at (node_tokens n) (marked_in f (parent ∷ ps) from to (node_tokens n)) r₀ r₃
      took-text n us g len end r₀ r₁ r₂ r₃ e i j el ee same p₁ x y p₃ ps =
          let m = n.marks in
          let a = take from us in
          let b = part from to us in
          let c = drop to us in
          let l : from < length us = omega (arith, j, ap length (node_tokens_at n (Text us) e), length-text_tokens m us) in
          let na : length (text_tokens m a) ≡ from = omega (arith, length-text_tokens m a, length-take from us, l) in
          let nb : length b ≡ min (to - from) (length us - from) = length-part from to us in
          let nm : length (text_tokens m b) ≡ length b = length-text_tokens m b in
          let ng : length (text_tokens g b) ≡ length b = length-text_tokens g b in
          let nc : length (text_tokens m c) ≡ len - end = omega (arith, length-text_tokens m c, length-drop to us, el, ee) in
          let first : Took s at (text_tokens m a) (text_tokens m a) r₀ r₁ = p₁ (text_tokens m a) na in
          let mid : Took s (at + from) (text_tokens m b) (text_tokens g b) r₁ r₂ =
          of-due (at + from) (text_tokens m b) (text_tokens g b) r₁ r₂
          (due-units s m g (at + from) (run_of r₁.run) (run_of r₂.run) b r₁.steps.items r₂.steps.items (omega (arith, nb, i, l)) x y) in
          let last : Took s (at + end) (text_tokens m c) (text_tokens m c) r₂ r₃ = p₃ (text_tokens m c) nc in
          let two : Took s (at + from) (text_tokens m b ++ text_tokens m c) (text_tokens g b ++ text_tokens m c) r₁ r₃ =
          took-both (at + from) (at + end) (text_tokens m b) (text_tokens g b) (text_tokens m c) (text_tokens m c) r₁ r₂ r₃
          (omega (arith, nm, ng)) (omega (arith, nm, nb, el, ee, i, l)) mid last in
          let all : Took s at (text_tokens m a ++ (text_tokens m b ++ text_tokens m c)) (text_tokens m a ++ (text_tokens g b ++ text_tokens m c)) r₀ r₃ =
          took-both at (at + from) (text_tokens m a) (text_tokens m a) (text_tokens m b ++ text_tokens m c) (text_tokens g b ++ text_tokens m c) r₀ r₁ r₃
          refl (omega (arith, na)) first two in
          let us-is : us ≡ a ++ (b ++ c) = sym (take-append-drop from us) ∙ ap (λ z. a ++ z) (drop-part us from to h) in
          let old-is : node_tokens n ≡ text_tokens m a ++ (text_tokens m b ++ text_tokens m c) =
          node_tokens_at n (Text us) e ∙ (ap (text_tokens m) us-is ∙ (text_tokens-append m a (b ++ c) ∙ ap (λ z. text_tokens m a ++ z) (text_tokens-append m b c))) in
          subst (λ (z : List Token). Took s at (node_tokens n) z r₀ r₃) (marked-text f parent ps n us g from to e h (λ u. same))
          (subst (λ (z : List Token). Took s at z (text_tokens m a ++ (text_tokens g b ++ text_tokens m c)) r₀ r₃) (sym old-is) all)

    -- the open of a node, where it stands in the range
    pub took-open : (at from : ℕ) (n : Node) (g : Marks) (takes : Bool) (old new : Runs) → from ≡ 0 → f parent (Open n.kind n.attrs n.marks) n.marks ≡ g
        → takes ≡ takes_marks s (Open n.kind n.attrs n.marks)
        → new.steps.items ≡ old.steps.items ++ due (differ n.marks g) takes (continues (run_of old.run) n.marks g) (run_of old.run) at n.marks g
        → run_of new.run ≡ next_run (differ n.marks g) takes (continues (run_of old.run) n.marks g) (run_of old.run) at n.marks g
        → (ps : List ℕ) → Took s at (Open n.kind n.attrs n.marks ∷ []) (marked_in f (parent ∷ ps) from (from + 1) (Open n.kind n.attrs n.marks ∷ [])) old new
    took-open at from n g takes old new z same k x y ps =
        let t = Open n.kind n.attrs n.marks in
        let is : marked_in f (parent ∷ ps) from (from + 1) (t ∷ []) ≡ Open n.kind n.attrs g ∷ [] =
        ap (λ i. marked_in f (parent ∷ ps) i (i + 1) (t ∷ [])) z
        ∙ (read-is f (parent ∷ ps) 0 1 (t ∷ []) (omega arith) ∙ ap (λ w. Open n.kind n.attrs w ∷ []) same) in
        subst (λ (w : List Token). Took s at (t ∷ []) w old new) (sym is)
        (of-due at (t ∷ []) (Open n.kind n.attrs g ∷ []) old new
        (due-token s t (Open n.kind n.attrs g) takes at (run_of old.run) (run_of new.run) old.steps.items new.steps.items k x y))
