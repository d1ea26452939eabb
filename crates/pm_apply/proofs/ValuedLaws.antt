-- The tokens with another value of a node: among children, in a node, and in its content.
use Rattle.std.specs.Prelude.{◌≡◌, ℕ, ◌+◌, ◌-◌, ◌≤◌, ◌<◌, true, None, List, [], ◌∷◌, ◌++◌, length, drop, slice_set, get_or}
use Rattle.std.specs.declared.sync.Arc.{Arc}
use Rattle.std.specs.Arc.{arc_value}
use Rattle.std.proofs.Common.{zero, suc, inl, inr, refl, ap, sym, ◌∙◌, arith, append_assoc, length-append}
use Rattle.std.proofs.lemmas.Bool.{cases_lt, ltb-true}
use Rattle.std.proofs.lemmas.List.{take-append-drop}
use Rattle.pm_value.specs.Plain.{Plain}
use Rattle.pm_tokens.specs.Tokens.{Attrs, Marks, Token, Open, Close, Leaf, CodeUnit}
use Rattle.pm_tokens.specs.Kids.{text_tokens}
use Rattle.pm_tokens.specs.Scan.{part}
use Rattle.pm_node.specs.declared.node.Node.{Node}
use Rattle.pm_node.specs.declared.node.Body.{Body}
use Rattle.pm_node.specs.declared.node.Body.TheVariants.{Text, Leaf as Childless, Children}
use Rattle.pm_node.specs.Trees.{node_tokens, body_tokens, list_tokens}
use Rattle.pm_node.specs.Among.{Stands}
use Rattle.pm_node.proofs.TreeLaws.{node_tokens_at}
use Rattle.pm_node.proofs.WalkLaws.{front, rest, list-split}
use Rattle.pm_meaning.specs.Attributes.{with_node_value}
use Rattle.pm_meaning.proofs.AttributeLaws.{valued-size}
use Rattle.pm_apply.specs.Nodes.{head_first, has_place, valued}
use Rattle.pm_apply.proofs.BetweenLaws.{front-is, rest-is}
use Rattle.pm_apply.proofs.HeadLaws.{head_at, head-inside, head-outside, head-text, head-end}

-- ---- that there is a node with such an attribute

module _ (i : ℕ) where
  pub place-within : (ts : List Token) (p : ℕ) → has_place i (head_at ts p) ≡ true → p < length ts
  place-within ts p h = elim (cases_lt p (length ts)) [
    | inl l ↦ l
    | inr g ↦ (let e : has_place i None ≡ true = ap (has_place i) (sym (head-end ts p (omega (arith, g)))) ∙ h in absurd (cc))
  ]

  pub place-text : (n : Node) (us : List ℕ) (p : ℕ) → n.body ≡ Text us → has_place i (head_at (node_tokens n) p) ≡ true → ⊥
  place-text n us p is h = let e : has_place i None ≡ true = ap (has_place i) (sym (head-text n us p is)) ∙ h in cc

  pub place-leaf : (n : Node) (p : ℕ) → n.body ≡ Childless → 0 < p → p < length (node_tokens n) → ⊥
  place-leaf n p is b l = omega (arith, b, l, ap length (node_tokens_at n Childless is))

  text-head : (m : Marks) (us : List ℕ) → head_first (text_tokens m us) ≡ None
  text-head m [] = refl
  text-head m (u ∷ us) = refl

  -- the node itself
  pub place-head : (n : Node) → has_place i (head_first (node_tokens n)) ≡ true → i < length n.attrs
  place-head n h = by n.kind n.attrs n.marks n.body h
    where
      by : (k : ℕ) (a : Attrs) (m : Marks) (b : Body) → has_place i (head_first (body_tokens k a m b)) ≡ true → i < length a
      by k a m (Text us) h = let e : has_place i None ≡ true = ap (has_place i) (sym (text-head m us)) ∙ h in absurd (cc)
      by k a m Childless h = ltb-true i (length a) h
      by k a m (Children ts) h = ltb-true i (length a) h

  pub place-inside : (n : Node) (inner : List Token) (p : ℕ) → n.body ≡ Children inner → 0 < p → p < length (node_tokens n) → has_place i (head_at (node_tokens n) p) ≡ true
      → (p ≤ length inner) × (has_place i (head_at inner (p - 1)) ≡ true)
  place-inside n inner p is b l h = elim (cases_lt (length inner) p) [
    | inl g ↦ (let e : has_place i None ≡ true = ap (has_place i) (sym (head-outside n inner p is l g)) ∙ h in absurd (cc))
    | inr g ↦ (omega (arith, g), ap (has_place i) (sym (head-inside n inner p is b (omega (arith, g)))) ∙ h)
  ]

-- ---- the tokens

module _ (i : ℕ) (value : Plain) where
  pub valued-length : (p : ℕ) (ts : List Token) → length (valued i value p ts) ≡ length ts
  valued-length p ts = valued-size i value _ (drop p ts) ∙ ap length (take-append-drop p ts)

  here-first : (x : Token) (xs ys : List Token) → with_node_value i value (x ∷ (xs ++ ys)) ≡ with_node_value i value (x ∷ xs) ++ ys
  here-first (Open k a m) xs ys = refl
  here-first Close xs ys = refl
  here-first (Leaf k a m) xs ys = refl
  here-first (CodeUnit u m) xs ys = refl

  valued-first : (p : ℕ) (xs ys : List Token) → p < length xs → valued i value p (xs ++ ys) ≡ valued i value p xs ++ ys
  valued-first p [] ys h = absurd (omega (arith, h))
  valued-first zero (x ∷ xs) ys h = here-first x xs ys
  valued-first (suc p) (x ∷ xs) ys h = ap (λ z. x ∷ z) (valued-first p xs ys (omega (arith, h)))

  valued-behind : (p : ℕ) (xs ys : List Token) → length xs ≤ p → valued i value p (xs ++ ys) ≡ xs ++ valued i value (p - length xs) ys
  valued-behind p [] ys h = ap (λ q. valued i value q ys) (let e : p ≡ p - 0 = omega arith in e)
  valued-behind zero (x ∷ xs) ys h = absurd (omega (arith, h))
  valued-behind (suc p) (x ∷ xs) ys h =
      ap (λ z. x ∷ z) (valued-behind p xs ys (omega (arith, h)) ∙ ap (λ q. xs ++ valued i value q ys) (let e : p - length xs ≡ suc p - suc (length xs) = omega arith in e))

  pub valued-among : {Z : Type 0} (xs : List (Arc Node Z)) (p k r : ℕ) (x : Arc Node Z) → Stands xs p k r → k < length xs → x ≡ get_or xs k x
      → valued i value p (list_tokens xs) ≡ front xs k ++ (valued i value r (node_tokens (arc_value x)) ++ rest xs (k + 1))
  valued-among xs p k r x w h g =
      let a = front xs k in
      let ts = node_tokens (arc_value x) in
      let b = rest xs (k + 1) in
      let e : p - length a ≡ r = omega (arith, w.offset) in
      ap (valued i value p) (list-split xs k x h g)
      ∙ (valued-behind p a (ts ++ b) (omega (arith, w.offset))
      ∙ (ap (λ q. a ++ valued i value q (ts ++ b)) e ∙ ap (λ z. a ++ z) (valued-first r ts b (w.inside x h g))))

  pub valued-here : (n : Node) (p : ℕ) → p ≡ 0 → with_node_value i value (node_tokens n) ≡ valued i value p (node_tokens n)
  valued-here n p z = ap (λ q. valued i value q (node_tokens n)) (sym z)

  pub valued-leaf : (n : Node) (a : Attrs) → n.body ≡ Childless → a ≡ slice_set n.attrs i value → body_tokens n.kind a n.marks Childless ≡ with_node_value i value (node_tokens n)
  valued-leaf n a is e = ap (λ z. body_tokens n.kind z n.marks Childless) e ∙ ap (with_node_value i value) (sym (node_tokens_at n Childless is))

  pub valued-open : (n : Node) (inner made : List Token) (a : Attrs) → n.body ≡ Children inner → made ≡ inner → a ≡ slice_set n.attrs i value → body_tokens n.kind a n.marks (Children made) ≡ with_node_value i value (node_tokens n)
  valued-open n inner made a is m e =
      ap (λ z. body_tokens n.kind z n.marks (Children made)) e
      ∙ (ap (λ z. body_tokens n.kind (slice_set n.attrs i value) n.marks (Children z)) m ∙ ap (with_node_value i value) (sym (node_tokens_at n (Children inner) is)))

  valued-inside : (n : Node) (inner : List Token) (p : ℕ) → n.body ≡ Children inner → 0 < p → p ≤ length inner → body_tokens n.kind n.attrs n.marks (Children (valued i value (p - 1) inner)) ≡ valued i value p (node_tokens n)
  valued-inside n inner zero is b h = absurd (omega (arith, b))
  valued-inside n inner (suc p) is b h =
      let t = Open n.kind n.attrs n.marks in
      let e : suc p - 1 ≡ p = omega arith in
      ap (λ q. t ∷ (valued i value q inner ++ (Close ∷ []))) e
      ∙ sym (ap (valued i value (suc p)) (node_tokens_at n (Children inner) is) ∙ ap (λ z. t ∷ z) (valued-first p inner (Close ∷ []) (omega (arith, h))))

  pub valued-inner : (n : Node) (inner made : List Token) (p : ℕ) (a : Attrs) → n.body ≡ Children inner → 0 < p → p ≤ length inner → made ≡ valued i value (p - 1) inner → a ≡ n.attrs
      → body_tokens n.kind a n.marks (Children made) ≡ valued i value p (node_tokens n)
  valued-inner n inner made p a is b h m e =
      ap (λ z. body_tokens n.kind z n.marks (Children made)) e ∙ (ap (λ z. body_tokens n.kind n.attrs n.marks (Children z)) m ∙ valued-inside n inner p is b h)

-- ---- put together

-- the sizes of the parts around a child
pub sized-parts : {Z : Type 0} (xs : List (Arc Node Z)) (k : ℕ) (x : Arc Node Z) → k < length xs → x ≡ get_or xs k x
    → length (list_tokens xs) ≡ length (front xs k) + (length (node_tokens (arc_value x)) + length (rest xs (k + 1)))
sized-parts xs k x h g =
    let a = front xs k in
    let ts = node_tokens (arc_value x) in
    let b = rest xs (k + 1) in
    omega (arith, ap length (list-split xs k x h g), length-append a (ts ++ b), length-append ts b)

-- the children before one, that one with the value, and those after it
pub put-together : {Z : Type 0} (i : ℕ) (value : Plain) (xs : List (Arc Node Z)) (p k r n : ℕ) (x : Arc Node Z) (m₀ m₁ m₂ m₃ ts : List Token)
    → m₀ ≡ [] → m₁ ≡ m₀ ++ list_tokens (part 0 k xs) → m₂ ≡ m₁ ++ ts → m₃ ≡ m₂ ++ list_tokens (part (k + 1) n xs) → ts ≡ valued i value r (node_tokens (arc_value x))
    → n ≡ length xs → Stands xs p k r → k < length xs → x ≡ get_or xs k x → m₃ ≡ valued i value p (list_tokens xs)
put-together i value xs p k r n x m₀ m₁ m₂ m₃ ts e₀ e₁ e₂ e₃ v e w h g =
    let a = front xs k in
    let b = rest xs (k + 1) in
    let y₁ : m₁ ≡ a = e₁ ∙ (ap (λ z. z ++ list_tokens (part 0 k xs)) e₀ ∙ front-is xs k) in
    let y₂ : m₂ ≡ a ++ valued i value r (node_tokens (arc_value x)) = e₂ ∙ (ap (λ z. z ++ ts) y₁ ∙ ap (λ z. a ++ z) v) in
    let behind : list_tokens (part (k + 1) n xs) ≡ b = rest-is xs (k + 1) n e (omega (arith, e, h)) in
    e₃ ∙ (ap (λ z. z ++ list_tokens (part (k + 1) n xs)) y₂ ∙ (ap (λ z. (a ++ valued i value r (node_tokens (arc_value x))) ++ z) behind
    ∙ (append_assoc a (valued i value r (node_tokens (arc_value x))) b ∙ sym (valued-among i value xs p k r x w h g))))
