-- The first and the last nodes of a content, read in its tokens.
use Rattle.std.specs.Prelude.{◌≡◌, ℕ, ◌+◌, ◌-◌, ◌<◌, false, List, [], ◌∷◌, ◌++◌, length, take, reverse, get_or}
use Rattle.std.specs.declared.sync.Arc.{Arc}
use Rattle.std.specs.Arc.{arc_value}
use Rattle.std.proofs.Common.{zero, suc, refl, ap, sym, ◌∙◌, subst, arith, append_assoc}
use Rattle.std.proofs.lemmas.List.{reverse-append}
use Rattle.pm_tokens.specs.Tokens.{Attrs, Marks, Token, Open, Close, Leaf, CodeUnit}
use Rattle.pm_tokens.specs.Kids.{text_tokens}
use Rattle.pm_node.specs.declared.node.Node.{Node}
use Rattle.pm_node.specs.declared.node.Body.{Body}
use Rattle.pm_node.specs.declared.node.Body.TheVariants.{Text, Leaf as Childless, Children}
use Rattle.pm_node.specs.Trees.{node_tokens, body_tokens, list_tokens, IsNormal}
use Rattle.pm_node.proofs.TreeLaws.{node_tokens_at, list_tokens-push, split_last}
use Rattle.pm_slice.specs.Sides.{opens_first, closes_first, closes_last}

-- ---- the first node

opens-inner : (d : ℕ) (inner rest : List Token) → opens_first d (inner ++ (Close ∷ rest)) ≡ opens_first d inner
opens-inner zero inner rest = refl
opens-inner (suc d) [] rest = refl
opens-inner (suc d) (Open k a m ∷ inner) rest = opens-inner d inner rest
opens-inner (suc d) (Close ∷ inner) rest = refl
opens-inner (suc d) (Leaf k a m ∷ inner) rest = refl
opens-inner (suc d) (CodeUnit u m ∷ inner) rest = refl

first-opens : (d k : ℕ) (a : Attrs) (m : Marks) (inner rest : List Token) → 0 < d → opens_first d ((Open k a m ∷ (inner ++ (Close ∷ []))) ++ rest) ≡ opens_first (d - 1) inner
first-opens zero k a m inner rest h = absurd (omega (arith, h))
first-opens (suc d) k a m inner rest h =
    ap (opens_first d) (append_assoc inner (Close ∷ []) rest) ∙ (opens-inner d inner rest ∙ ap (λ e. opens_first e inner) (let e : d ≡ suc d - 1 = omega arith in e))

first-flat : (d k : ℕ) (a : Attrs) (m : Marks) (b : Body) (rest : List Token) → 0 < d → 0 < length (body_tokens k a m b) → ((ts : List Token) → b ≡ Children ts → ⊥) → opens_first d (body_tokens k a m b ++ rest) ≡ false
first-flat zero k a m b rest h p q = absurd (omega (arith, h))
first-flat (suc d) k a m (Text []) rest h p q = absurd (omega (arith, p))
first-flat (suc d) k a m (Text (u ∷ us)) rest h p q = refl
first-flat (suc d) k a m Childless rest h p q = refl
first-flat (suc d) k a m (Children ts) rest h p q = absurd (q ts refl)

module _ {Z : Type 0} (d : ℕ) (some : 0 < d) where
  pub opens-none : (xs : List (Arc Node Z)) → length xs ≡ 0 → opens_first d (list_tokens xs) ≡ false
  opens-none [] e = none d some
    where
      none : (n : ℕ) → 0 < n → opens_first n [] ≡ false
      none zero h = absurd (omega (arith, h))
      none (suc n) h = refl
  opens-none (x ∷ xs) e = absurd (omega (arith, e))

  pub opens-children : (xs : List (Arc Node Z)) (x : Arc Node Z) (inner : List Token) → 0 < length xs → x ≡ get_or xs 0 x → (arc_value x).body ≡ Children inner → opens_first d (list_tokens xs) ≡ opens_first (d - 1) inner
  opens-children [] x inner l r is = absurd (omega (arith, l))
  opens-children (y ∷ xs) x inner l r is =
      let n = arc_value x in
      ap (λ (z : Arc Node Z). opens_first d (node_tokens (arc_value z) ++ list_tokens xs)) (sym r)
      ∙ (ap (λ ts. opens_first d (ts ++ list_tokens xs)) (node_tokens_at n (Children inner) is) ∙ first-opens d n.kind n.attrs n.marks inner (list_tokens xs) some)

  pub opens-flat : (xs : List (Arc Node Z)) (x : Arc Node Z) → IsNormal xs → 0 < length xs → x ≡ get_or xs 0 x → ((ts : List Token) → (arc_value x).body ≡ Children ts → ⊥) → opens_first d (list_tokens xs) ≡ false
  opens-flat [] x w l r other = absurd (omega (arith, l))
  opens-flat (y ∷ xs) x w l r other =
      let n = arc_value x in
      let full : 0 < length (node_tokens n) = subst (λ (z : Arc Node Z). 0 < length (node_tokens (arc_value z))) (sym r) w.0 in
      ap (λ (z : Arc Node Z). opens_first d (node_tokens (arc_value z) ++ list_tokens xs)) (sym r) ∙ first-flat d n.kind n.attrs n.marks n.body (list_tokens xs) some full other

-- ---- the last node

closes-inner : (d k : ℕ) (a : Attrs) (m : Marks) (inner rest : List Token) → closes_first d (inner ++ (Open k a m ∷ rest)) ≡ closes_first d inner
closes-inner zero k a m inner rest = refl
closes-inner (suc d) k a m [] rest = refl
closes-inner (suc d) k a m (Open j b n ∷ inner) rest = refl
closes-inner (suc d) k a m (Close ∷ inner) rest = closes-inner d k a m inner rest
closes-inner (suc d) k a m (Leaf j b n ∷ inner) rest = refl
closes-inner (suc d) k a m (CodeUnit u n ∷ inner) rest = refl

last-closes : (d k : ℕ) (a : Attrs) (m : Marks) (front inner : List Token) → 0 < d → closes_last d (front ++ (Open k a m ∷ (inner ++ (Close ∷ [])))) ≡ closes_last (d - 1) inner
last-closes zero k a m front inner h = absurd (omega (arith, h))
last-closes (suc d) k a m front inner h =
    ap (closes_first (suc d)) turned ∙ (closes-inner d k a m (reverse inner) (reverse front) ∙ ap (λ e. closes_first e (reverse inner)) (let e : d ≡ suc d - 1 = omega arith in e))
  where
    turned : reverse (front ++ (Open k a m ∷ (inner ++ (Close ∷ [])))) ≡ Close ∷ (reverse inner ++ (Open k a m ∷ reverse front))
    turned =
        reverse-append front (Open k a m ∷ (inner ++ (Close ∷ [])))
        ∙ (ap (λ z. z ++ reverse front) (reverse-append (Open k a m ∷ []) (inner ++ (Close ∷ [])) ∙ ap (λ z. z ++ (Open k a m ∷ [])) (reverse-append inner (Close ∷ [])))
        ∙ ap (λ z. Close ∷ z) (append_assoc (reverse inner) (Open k a m ∷ []) (reverse front)))

last-unit : (d : ℕ) (front : List Token) (m : Marks) (us : List ℕ) → 0 < d → 0 < length us → closes_last d (front ++ text_tokens m us) ≡ false
last-unit zero front m us h p = absurd (omega (arith, h))
last-unit (suc d) front m [] h p = absurd (omega (arith, p))
last-unit (suc d) front m (u ∷ []) h p = ap (closes_first (suc d)) (reverse-append front (CodeUnit u m ∷ []))
last-unit (suc d) front m (u ∷ (v ∷ us)) h p =
    ap (closes_last (suc d)) (sym (append_assoc front (CodeUnit u m ∷ []) (text_tokens m (v ∷ us)))) ∙ last-unit (suc d) (front ++ (CodeUnit u m ∷ [])) m (v ∷ us) h (omega arith)

last-flat : (d k : ℕ) (a : Attrs) (m : Marks) (b : Body) (front : List Token) → 0 < d → 0 < length (body_tokens k a m b) → ((ts : List Token) → b ≡ Children ts → ⊥) → closes_last d (front ++ body_tokens k a m b) ≡ false
last-flat zero k a m b front h p q = absurd (omega (arith, h))
last-flat (suc d) k a m (Text []) front h p q = absurd (omega (arith, p))
last-flat (suc d) k a m (Text (u ∷ us)) front h p q = last-unit (suc d) front m (u ∷ us) h (omega arith)
last-flat (suc d) k a m Childless front h p q = ap (closes_first (suc d)) (reverse-append front (Leaf k a m ∷ []))
last-flat (suc d) k a m (Children ts) front h p q = absurd (q ts refl)

normal-last : {Z : Type 0} (front : List (Arc Node Z)) (x : Arc Node Z) → IsNormal (front ++ (x ∷ [])) → 0 < length (node_tokens (arc_value x))
normal-last [] x w = w.0
normal-last (y ∷ front) x w = normal-last front x w.2

module _ {Z : Type 0} (d : ℕ) (some : 0 < d) where
  pub closes-none : (xs : List (Arc Node Z)) → length xs ≡ 0 → closes_last d (list_tokens xs) ≡ false
  closes-none [] e = none d some
    where
      none : (n : ℕ) → 0 < n → closes_first n [] ≡ false
      none zero h = absurd (omega (arith, h))
      none (suc n) h = refl
  closes-none (x ∷ xs) e = absurd (omega (arith, e))

  module _ (xs : List (Arc Node Z)) (i : ℕ) (x : Arc Node Z) (e : i + 1 ≡ length xs) (r : x ≡ get_or xs i x) where
    split : xs ≡ take i xs ++ (x ∷ [])
    split = split_last xs x i e ∙ ap (λ (z : Arc Node Z). take i xs ++ (z ∷ [])) (sym r)

    at-end : list_tokens xs ≡ list_tokens (take i xs) ++ node_tokens (arc_value x)
    at-end = ap list_tokens split ∙ list_tokens-push (take i xs) x

    pub closes-children : (inner : List Token) → (arc_value x).body ≡ Children inner → closes_last d (list_tokens xs) ≡ closes_last (d - 1) inner
    closes-children inner is =
        let n = arc_value x in
        ap (closes_last d) (at-end ∙ ap (λ ts. list_tokens (take i xs) ++ ts) (node_tokens_at n (Children inner) is)) ∙ last-closes d n.kind n.attrs n.marks (list_tokens (take i xs)) inner some

    pub closes-flat : IsNormal xs → ((ts : List Token) → (arc_value x).body ≡ Children ts → ⊥) → closes_last d (list_tokens xs) ≡ false
    closes-flat w other =
        let n = arc_value x in
        ap (closes_last d) at-end ∙ last-flat d n.kind n.attrs n.marks n.body (list_tokens (take i xs)) some (normal-last (take i xs) x (subst IsNormal split w)) other
