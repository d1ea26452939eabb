-- The children of a content in normal form, and their types, read off its tokens.
use Rattle.std.specs.Prelude.{◌≡◌, ℕ, ◌<◌, None, List, [], ◌∷◌, ◌++◌, length, map, get_or}
use Rattle.std.specs.declared.sync.Arc.{Arc}
use Rattle.std.specs.Arc.{arc_value}
use Rattle.std.proofs.Common.{zero, suc, refl, ap, ◌∙◌, arith, append_assoc}
use Rattle.pm_tokens.specs.Tokens.{Attrs, Marks, Token, Open, Close}
use Rattle.pm_tokens.specs.Kids.{EndsText, kids, children}
use Rattle.pm_tokens.proofs.KidLaws.{kids-node, kids-text}
use Rattle.pm_tokens.proofs.ChildLaws.{children-node, children-text}
use Rattle.pm_node.specs.declared.node.Node.{Node}
use Rattle.pm_node.specs.declared.node.Body.{Body}
use Rattle.pm_node.specs.declared.node.Body.TheVariants.{Text, Leaf as Childless, Children}
use Rattle.pm_node.specs.Trees.{body_tokens, node_tokens, list_tokens, IsText, Apart, IsNormal, WholeBody, EachWhole}
use Rattle.pm_node.specs.Kinds.{body_kind, kind_in, kinds}

-- a node that does not go on a text ends it
ends-body : (m : Marks) (k : ℕ) (a : Attrs) (n : Marks) (b : Body) (ts : List Token) → 0 < length (body_tokens k a n b) → (IsText b → m ≡ n → ⊥) → EndsText m (body_tokens k a n b ++ ts)
ends-body m k a n (Text []) ts p f = absurd (omega arith)
ends-body m k a n (Text (u ∷ us)) ts p f = f tt
ends-body m k a n Childless ts p f = tt
ends-body m k a n (Children inner) ts p f = tt

-- in normal form the nodes after a text end it
pub ends-apart : {Z : Type 0} (x : Node) (xs : List (Arc Node Z)) → IsText x.body → Apart x xs → IsNormal xs → EndsText x.marks (list_tokens xs)
ends-apart x [] t a n = tt
ends-apart x (y ∷ ys) t a n =
    let v = arc_value y in
    ends-body x.marks v.kind v.attrs v.marks v.body (list_tokens ys) n.0 (λ u e. a (t, u, e))

-- the tokens of one child after another
abbrev pub child_tokens : {Z : Type 0} → List (Arc Node Z) → List (List Token)
child_tokens xs = map (λ x. node_tokens (arc_value x)) xs

children-body : (k : ℕ) (a : Attrs) (m : Marks) (b : Body) (ts : List Token) → WholeBody b → 0 < length (body_tokens k a m b) → (IsText b → EndsText m ts) → children (body_tokens k a m b ++ ts) ≡ body_tokens k a m b ∷ children ts
children-body k a m (Text []) ts w p e = absurd (omega arith)
children-body k a m (Text (u ∷ us)) ts w p e = children-text m u us ts (e tt)
children-body k a m Childless ts w p e = refl
children-body k a m (Children inner) ts w p e = ap (λ z. children (Open k a m ∷ z)) (append_assoc inner (Close ∷ []) ts) ∙ children-node k a m w ts

pub children-list : {Z : Type 0} (xs : List (Arc Node Z)) → IsNormal xs → EachWhole xs → children (list_tokens xs) ≡ child_tokens xs
children-list [] n w = refl
children-list (x ∷ xs) n w =
    let v = arc_value x in
    children-body v.kind v.attrs v.marks v.body (list_tokens xs) w.0 n.0 (λ t. ends-apart v xs t n.1 n.2) ∙ ap (λ z. node_tokens v ∷ z) (children-list xs n.2 w.1)

pub length-child_tokens : {Z : Type 0} (xs : List (Arc Node Z)) → length (child_tokens xs) ≡ length xs
length-child_tokens [] = refl
length-child_tokens (x ∷ xs) = ap suc (length-child_tokens xs)

pub child_tokens-at : {Z : Type 0} (xs : List (Arc Node Z)) (i : ℕ) (x : Arc Node Z) → i < length xs → get_or (child_tokens xs) i [] ≡ node_tokens (arc_value (get_or xs i x))
child_tokens-at [] i x h = absurd (omega arith)
child_tokens-at (y ∷ ys) zero x h = refl
child_tokens-at (y ∷ ys) (suc i) x h = child_tokens-at ys i x (omega arith)

module _ (text : ℕ) where
  kids-body : (k : ℕ) (a : Attrs) (m : Marks) (b : Body) (ts : List Token) → WholeBody b → 0 < length (body_tokens k a m b) → (IsText b → EndsText m ts) → kids text 0 None (body_tokens k a m b ++ ts) ≡ body_kind text k b ∷ kids text 0 None ts
  kids-body k a m (Text []) ts w p e = absurd (omega arith)
  kids-body k a m (Text (u ∷ us)) ts w p e = kids-text text m u us ts (e tt)
  kids-body k a m Childless ts w p e = refl
  kids-body k a m (Children inner) ts w p e = ap (λ z. kids text 0 None (Open k a m ∷ z)) (append_assoc inner (Close ∷ []) ts) ∙ kids-node text None k a m w ts

  pub kids-list : {Z : Type 0} (xs : List (Arc Node Z)) → IsNormal xs → EachWhole xs → kids text 0 None (list_tokens xs) ≡ kinds text xs
  kids-list [] n w = refl
  kids-list (x ∷ xs) n w =
      let v = arc_value x in
      kids-body v.kind v.attrs v.marks v.body (list_tokens xs) w.0 n.0 (λ t. ends-apart v xs t n.1 n.2) ∙ ap (λ z. kind_in text v ∷ z) (kids-list xs n.2 w.1)
