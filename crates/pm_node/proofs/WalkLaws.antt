-- A walk over the children of a fragment: the tokens of those after it, of the child it looks at, and of the rest.
use Rattle.std.specs.Prelude.{◌≡◌, ℕ, ◌+◌, ◌-◌, ◌≤◌, ◌<◌, List, [], ◌∷◌, ◌++◌, length, take, drop, get_or}
use Rattle.std.specs.declared.sync.Arc.{Arc}
use Rattle.std.specs.Arc.{arc_value}
use Rattle.std.proofs.Common.{zero, suc, ap, sym, ◌∙◌, subst, arith, append_assoc, length-append}
use Rattle.std.proofs.lemmas.List.{take_more, take-append-drop, at_drop_more, drop_all}
use Rattle.pm_tokens.specs.Tokens.{Attrs, Marks, Token}
use Rattle.pm_tokens.specs.Scan.{Balanced, none, leaf}
use Rattle.pm_tokens.proofs.KidLaws.{balanced-text}
use Rattle.pm_node.specs.declared.node.Node.{Node}
use Rattle.pm_node.specs.declared.node.Body.{Body}
use Rattle.pm_node.specs.declared.node.Body.TheVariants.{Text, Leaf as Childless, Children}
use Rattle.pm_node.specs.Trees.{body_tokens, node_tokens, list_tokens, Apart, IsNormal, WholeBody, EachWhole}
use Rattle.pm_node.proofs.TreeLaws.{list_tokens-append, list_tokens-push, balanced-node}

-- the tokens of the first i children
abbrev pub front : {Z : Type 0} → List (Arc Node Z) → ℕ → List Token
front xs i = list_tokens (take i xs)

pub front-more : {Z : Type 0} (xs : List (Arc Node Z)) (i : ℕ) (x : Arc Node Z) → i < length xs → x ≡ get_or xs i x → front xs (i + 1) ≡ front xs i ++ node_tokens (arc_value x)
front-more xs i x h r = ap list_tokens (take_more xs i x h ∙ ap (λ z. take i xs ++ (z ∷ [])) (sym r)) ∙ list_tokens-push (take i xs) x

-- the tokens of a list around its child i
pub list-split : {Z : Type 0} (xs : List (Arc Node Z)) (i : ℕ) (x : Arc Node Z) → i < length xs → x ≡ get_or xs i x → list_tokens xs ≡ front xs i ++ (node_tokens (arc_value x) ++ list_tokens (drop (i + 1) xs))
list-split xs i x h r =
    ap list_tokens (sym (take-append-drop (i + 1) xs)) ∙ (list_tokens-append (take (i + 1) xs) (drop (i + 1) xs) ∙ (ap (λ z. z ++ list_tokens (drop (i + 1) xs)) (front-more xs i x h r) ∙ append_assoc (front xs i) (node_tokens (arc_value x)) (list_tokens (drop (i + 1) xs))))

-- no child has more tokens than all of them
pub child-within : {Z : Type 0} (xs : List (Arc Node Z)) (i : ℕ) (x : Arc Node Z) → i < length xs → x ≡ get_or xs i x → length (node_tokens (arc_value x)) ≤ length (list_tokens xs)
child-within xs i x h r =
    let n = node_tokens (arc_value x) in
    let g : list_tokens (take (i + 1) xs) ≡ list_tokens (take i xs) ++ n = ap list_tokens (take_more xs i x h ∙ ap (λ z. take i xs ++ (z ∷ [])) (sym r)) ∙ list_tokens-push (take i xs) x in
    let all : list_tokens xs ≡ list_tokens (take (i + 1) xs) ++ list_tokens (drop (i + 1) xs) = ap list_tokens (sym (take-append-drop (i + 1) xs)) ∙ list_tokens-append (take (i + 1) xs) (drop (i + 1) xs) in
    omega (arith, ap length g, ap length all, length-append (list_tokens (take i xs)) n, length-append (list_tokens (take (i + 1) xs)) (list_tokens (drop (i + 1) xs)))

-- ---- from a child on

pub whole-node : (n : Node) → WholeBody n.body → Balanced (node_tokens n)
whole-node n w = by n.kind n.attrs n.marks n.body w
  where
    by : (k : ℕ) (a : Attrs) (m : Marks) (b : Body) → WholeBody b → Balanced (body_tokens k a m b)
    by k a m (Text us) w = balanced-text m us
    by k a m Childless w = leaf k a m none
    by k a m (Children ts) w = balanced-node k a m w

pub normal-rest : {Z : Type 0} (xs : List (Arc Node Z)) (i : ℕ) → IsNormal xs → IsNormal (drop i xs)
normal-rest xs zero n = n
normal-rest [] (suc i) n = tt
normal-rest (x ∷ xs) (suc i) n = normal-rest xs i n.2

pub each-rest : {Z : Type 0} (xs : List (Arc Node Z)) (i : ℕ) → EachWhole xs → EachWhole (drop i xs)
each-rest xs zero w = w
each-rest [] (suc i) w = tt
each-rest (x ∷ xs) (suc i) w = each-rest xs i w.1

-- the tokens of the children from i on
abbrev pub rest : {Z : Type 0} → List (Arc Node Z) → ℕ → List Token
rest xs i = list_tokens (drop i xs)

-- child i of a list in normal form, before the rest
pub record Child {Z : Type 0} (xs : List (Arc Node Z)) (i : ℕ) (n : Node) : Type 0 where
  pub tokens : rest xs i ≡ node_tokens n ++ rest xs (i + 1)
  pub body : WholeBody n.body
  pub whole : Balanced (node_tokens n)
  pub apart : Apart n (drop (i + 1) xs)
  pub normal : IsNormal (drop (i + 1) xs)
  pub full : 0 < length (node_tokens n)

pub child-at : {Z : Type 0} (xs : List (Arc Node Z)) (i : ℕ) (x : Arc Node Z) → IsNormal xs → EachWhole xs → i < length xs → x ≡ get_or xs i x → Child xs i (arc_value x)
child-at xs i x n w h r =
    let split : drop i xs ≡ x ∷ drop (i + 1) xs = at_drop_more (λ z. z) xs i x h ∙ ap (λ z. z ∷ drop (i + 1) xs) (sym r) in
    let normal : IsNormal (x ∷ drop (i + 1) xs) = subst IsNormal split (normal-rest xs i n) in
    let each : EachWhole (x ∷ drop (i + 1) xs) = subst EachWhole split (each-rest xs i w) in
    record {
      tokens = ap list_tokens split;
      body = each.0;
      whole = whole-node (arc_value x) each.0;
      apart = normal.1;
      normal = normal.2;
      full = normal.0;
    }

pub rest-end : {Z : Type 0} (xs : List (Arc Node Z)) (i : ℕ) → length xs ≤ i → rest xs i ≡ []
rest-end xs i h = ap list_tokens (drop_all i xs h)

-- how many tokens are left
pub rest-length : {Z : Type 0} {xs : List (Arc Node Z)} {i : ℕ} {n : Node} → Child xs i n → length (rest xs i) ≡ length (node_tokens n) + length (rest xs (i + 1))
rest-length {xs = xs} {i = i} {n = n} c = ap length c.tokens ∙ length-append (node_tokens n) (rest xs (i + 1))

-- one more child is after the position
pub stands-more : {Z : Type 0} (xs : List (Arc Node Z)) (i rest p : ℕ) (x : Arc Node Z) (size : ℕ) → length (front xs i) + rest ≡ p → i < length xs → x ≡ get_or xs i x → size ≡ length (node_tokens (arc_value x)) → size ≤ rest
    → length (front xs (i + 1)) + (rest - size) ≡ p
stands-more xs i rest p x size e h r s l = omega (arith, e, s, l, ap length (front-more xs i x h r), length-append (front xs i) (node_tokens (arc_value x)))

-- a number below the length that was read is below the length, and one that is not is past it
pub in-range : {n m i : ℕ} → n ≡ m → i < n → i < m
in-range e h = omega (arith, e, h)

pub past-range : {n m i : ℕ} → n ≡ m → n ≤ i → m ≤ i
past-range e h = omega (arith, e, h)

-- a child in normal form is not empty, and whole
pub some-at : {Z : Type 0} (xs : List (Arc Node Z)) (i : ℕ) (x : Arc Node Z) → i < length xs → x ≡ get_or xs i x → IsNormal xs → 0 < length (node_tokens (arc_value x))
some-at [] i x h e n = absurd (omega (arith, h))
some-at (y ∷ ys) zero x h e n = subst (λ z. 0 < length (node_tokens (arc_value {X = Node} z))) (sym e) n.0
some-at (y ∷ ys) (suc i) x h e n = some-at ys i x (omega (arith, h)) e n.2

pub whole-at : {Z : Type 0} (xs : List (Arc Node Z)) (i : ℕ) (x : Arc Node Z) → i < length xs → x ≡ get_or xs i x → EachWhole xs → WholeBody (arc_value x).body
whole-at [] i x h e w = absurd (omega (arith, h))
whole-at (y ∷ ys) zero x h e w = let P : Arc Node _ → Type 0 = λ z. WholeBody (arc_value {X = Node} z).body in subst P (sym e) w.0
whole-at (y ∷ ys) (suc i) x h e w = whole-at ys i x (omega (arith, h)) e w.1
