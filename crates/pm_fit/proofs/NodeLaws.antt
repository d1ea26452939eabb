-- The first node of a content, and a content of one node.
use Rattle.std.specs.Prelude.{◌≡◌, ℕ, ◌+◌, ◌-◌, ◌≤◌, ◌<◌, Bool, true, false, ◌&&◌, ◌==◌, nat_lt, Some, None, List, [], ◌∷◌, ◌++◌, length, get_or}
use Rattle.std.specs.declared.sync.Arc.{Arc}
use Rattle.std.specs.Arc.{arc_value}
use Rattle.std.proofs.Common.{suc, refl, ap, sym, ◌∙◌, arith, length-append, eq-eqb}
use Rattle.std.proofs.lemmas.Bool.{ne_eqb, and_from}
use Rattle.std.proofs.lemmas.Bool.Decides.{nat_tests}
use Rattle.std.proofs.lemmas.List.{append-nil, take-append-le, take_all}
use Rattle.pm_tokens.specs.Tokens.{Attrs, Marks, Token, Open, Close}
use Rattle.pm_tokens.specs.Scan.{Balanced, none, leaf, unit, node}
use Rattle.pm_tokens.specs.Kids.{children}
use Rattle.pm_node.specs.declared.node.Node.{Node}
use Rattle.pm_node.specs.declared.node.Body.{Body}
use Rattle.pm_node.specs.declared.node.Body.TheVariants.{Text, Leaf as Childless, Children}
use Rattle.pm_node.specs.Trees.{node_tokens, body_tokens, list_tokens, IsNormal, EachWhole}
use Rattle.pm_node.specs.Kinds.{body_kind, kind_in}
use Rattle.pm_node.proofs.TreeLaws.{node_tokens_at}
use Rattle.pm_node.proofs.KindLaws.{children-list, length-child_tokens}
use Rattle.pm_slice.specs.Sides.{opens_first}
use Rattle.pm_slice.proofs.SpineLaws.{opens-flat}
use Rattle.pm_fit.specs.Candidates.{can_be_peeled, inside}
use Rattle.pm_fit.specs.Wrappings.{first_type}

lt-is : (a b : ℕ) → a < b → nat_lt a b ≡ true
lt-is a b h = grind (arith, nat_tests)

lt-not : (a b : ℕ) → (a < b → ⊥) → nat_lt a b ≡ false
lt-not a b h = grind (arith, nat_tests)

and-no : (a b : Bool) → a && false && b ≡ false
and-no true b = refl
and-no false b = refl

and-none : (a b : Bool) → a && b && false ≡ false
and-none true true = refl
and-none true false = refl
and-none false true = refl
and-none false false = refl

-- ---- the first type

module _ (text : ℕ) where
  -- whole nodes without a first type are none
  pub first-none : {ts : List Token} → Balanced ts → first_type text ts ≡ None → length ts ≡ 0
  first-none none e = refl
  first-none (leaf k a m b) e = absurd (cc)
  first-none (unit u m b) e = absurd (cc)
  first-none (node k a m i b) e = absurd (cc)

  pub first-some : (ts : List Token) (k : ℕ) → Some k ≡ first_type text ts → 0 < length ts
  first-some [] k e = absurd (cc)
  first-some (t ∷ ts) k e = omega arith

  pub first-empty : {Z : Type 0} (xs : List (Arc Node Z)) → length xs ≡ 0 → None ≡ first_type text (list_tokens xs)
  first-empty [] e = refl
  first-empty (x ∷ xs) e = absurd (omega (arith, e))

  first-body : (k : ℕ) (a : Attrs) (m : Marks) (b : Body) (ts : List Token) → 0 < length (body_tokens k a m b) → first_type text (body_tokens k a m b ++ ts) ≡ Some (body_kind text k b)
  first-body k a m (Text []) ts h = absurd (omega (arith, h))
  first-body k a m (Text (u ∷ us)) ts h = refl
  first-body k a m Childless ts h = refl
  first-body k a m (Children inner) ts h = refl

  pub first-list : {Z : Type 0} (xs : List (Arc Node Z)) (x : Arc Node Z) → IsNormal xs → 0 < length xs → x ≡ get_or xs 0 x → first_type text (list_tokens xs) ≡ Some (kind_in text (arc_value x))
  first-list [] x n l e = absurd (omega (arith, l))
  first-list (y ∷ ys) x n l e =
      let v = arc_value y in
      first-body v.kind v.attrs v.marks v.body (list_tokens ys) n.0 ∙ ap (λ (z : Arc Node _). Some (kind_in text (arc_value z))) (sym e)

-- ---- one node

-- a node's tokens without its open and its close
pub inside-node : (k : ℕ) (a : Attrs) (m : Marks) (inner : List Token) → inside (Open k a m ∷ (inner ++ (Close ∷ []))) ≡ inner
inside-node k a m inner =
    let ts = Open k a m ∷ (inner ++ (Close ∷ [])) in
    let n = length ts - 1 - 1 in
    let size : n ≡ length inner = omega (arith, length-append inner (Close ∷ [])) in
    let within : n ≤ length inner = omega (arith, size) in
    let most : length inner ≤ n = omega (arith, size) in
    take-append-le n inner (Close ∷ []) within ∙ take_all n inner most

module _ {Z : Type 0} (xs : List (Arc Node Z)) (w : IsNormal xs) (v : EachWhole xs) where
  count : length (children (list_tokens xs)) ≡ length xs
  count = ap length (children-list xs w v) ∙ length-child_tokens xs

  pub peel-not-one : (length xs ≡ 1 → ⊥) → can_be_peeled (list_tokens xs) ≡ false
  peel-not-one h =
      let no : (length (children (list_tokens xs)) == 1) ≡ false = ne_eqb _ _ (λ e. h (sym count ∙ e)) in
      ap (λ (b : Bool). b && opens_first 1 (list_tokens xs) && nat_lt 2 (length (list_tokens xs))) no

  pub peel-flat : (x : Arc Node Z) → 0 < length xs → x ≡ get_or xs 0 x → ((ts : List Token) → (arc_value x).body ≡ Children ts → ⊥) → can_be_peeled (list_tokens xs) ≡ false
  peel-flat x l e other =
      let no : opens_first 1 (list_tokens xs) ≡ false = opens-flat 1 (omega arith) xs x w l e other in
      ap (λ (b : Bool). (length (children (list_tokens xs)) == 1) && b && nat_lt 2 (length (list_tokens xs))) no ∙ and-no _ _

-- the tokens of the one node
pub tokens-one : {Z : Type 0} (xs : List (Arc Node Z)) (x : Arc Node Z) (inner : List Token) → length xs ≡ 1 → x ≡ get_or xs 0 x → (arc_value x).body ≡ Children inner
    → list_tokens xs ≡ Open (arc_value x).kind (arc_value x).attrs (arc_value x).marks ∷ (inner ++ (Close ∷ []))
tokens-one [] x inner l e b = absurd (omega (arith, l))
tokens-one (y ∷ []) x inner l e b = ap (λ (z : Arc Node _). node_tokens (arc_value z) ++ []) (sym e) ∙ (append-nil (node_tokens (arc_value x)) ∙ node_tokens_at (arc_value x) (Children inner) b)
tokens-one (y ∷ z ∷ ys) x inner l e b = absurd (omega (arith, l))

module _ {Z : Type 0} (xs : List (Arc Node Z)) (x : Arc Node Z) (inner : List Token) (w : IsNormal xs) (v : EachWhole xs) (l : length xs ≡ 1) (e : x ≡ get_or xs 0 x) (b : (arc_value x).body ≡ Children inner) where
  size : length (list_tokens xs) ≡ length inner + 2
  size = ap length (tokens-one xs x inner l e b) ∙ (let f : suc (length (inner ++ (Close ∷ []))) ≡ length inner + 2 = omega (arith, length-append inner (Close ∷ [])) in f)

  pub peel-empty : length inner ≡ 0 → can_be_peeled (list_tokens xs) ≡ false
  peel-empty z =
      let no : nat_lt 2 (length (list_tokens xs)) ≡ false = lt-not 2 (length (list_tokens xs)) (λ h. omega (arith, h, size, z)) in
      ap (λ (c : Bool). (length (children (list_tokens xs)) == 1) && opens_first 1 (list_tokens xs) && c) no ∙ and-none (length (children (list_tokens xs)) == 1) (opens_first 1 (list_tokens xs))

  pub peel-can : (length inner ≡ 0 → ⊥) → can_be_peeled (list_tokens xs) ≡ true
  peel-can z =
      let more : 2 < length (list_tokens xs) = omega (arith, size, z) in
      and_from _ _ (and_from _ _ (eq-eqb (length (children (list_tokens xs))) 1 (count xs w v ∙ l)) (ap (opens_first 1) (tokens-one xs x inner l e b))) (lt-is 2 (length (list_tokens xs)) more)

  pub peel-inner : inner ≡ inside (list_tokens xs)
  peel-inner = sym (ap inside (tokens-one xs x inner l e b) ∙ inside-node (arc_value x).kind (arc_value x).attrs (arc_value x).marks inner)
