-- What stands at a position: after whole nodes, in one node, and in its content.
use Rattle.std.specs.Prelude.{◌≡◌, ℕ, ◌+◌, ◌-◌, ◌≤◌, ◌<◌, false, ◌&&◌, Some, None, List, [], ◌∷◌, ◌++◌, length, take, drop, reverse, get_or}
use Rattle.std.proofs.Common.{zero, suc, refl, ap, sym, ◌∙◌, arith, length-append}
use Rattle.std.proofs.lemmas.List.{take_all, take-append-le, reverse-append, take-append-drop}
use Rattle.pm_tokens.specs.Tokens.{Attrs, Marks, Token, Open, Close, Leaf, CodeUnit}
use Rattle.pm_tokens.specs.Kids.{text_tokens}
use Rattle.pm_tokens.specs.Scan.{unclosed, unmet, around, depth_at, Balanced, ends_high, starts_low, is_high, parts_pair}
use Rattle.pm_tokens.proofs.ListLaws.{take_over, take-nil, drop-nil}
use Rattle.pm_tokens.proofs.ScanLaws.{unclosed-append, unmet-append}
use Rattle.pm_tokens.proofs.BalanceLaws.{unclosed-balanced, balanced-whole}
use Rattle.pm_tokens.proofs.OwnedParts.{depth-under}
use Rattle.pm_tokens.proofs.CutLaws.{around-append, around-under, around-length}
use Rattle.std.proofs.lemmas.List.{nil_from_length}
use Rattle.pm_node.specs.declared.node.Node.{Node}
use Rattle.pm_node.specs.declared.node.Body.{Body}
use Rattle.pm_node.specs.declared.node.Body.TheVariants.{Text, Leaf as Childless, Children}
use Rattle.pm_node.specs.Trees.{node_tokens, body_tokens}
use Rattle.pm_node.proofs.TreeLaws.{node_tokens_at}
use Rattle.pm_build.specs.Positions.{first_unit, unit_at, path, high_unit, low_unit}
use Rattle.pm_tokens.proofs.PairLaws.{and-right}

-- ---- after whole nodes

take-behind : (xs ys : List Token) (r : ℕ) → length xs ≤ r → take r (xs ++ ys) ≡ xs ++ take (r - length xs) ys
take-behind xs ys r h = take_over r xs ys ∙ ap (λ z. z ++ take (r - length xs) ys) (take_all r xs h)

pub around-balanced : (ts : List Token) → Balanced ts → around [] ts ≡ []
around-balanced ts b = nil_from_length (around [] ts) (around-length [] [] ts refl ∙ ap length (unclosed-balanced [] b))

module _ (xs ys : List Token) (r : ℕ) (b : Balanced xs) (h : length xs ≤ r) where
  pub depth-behind : depth_at (xs ++ ys) r ≡ depth_at ys (r - length xs)
  depth-behind =
      ap (λ z. length (unclosed [] z)) (take-behind xs ys r h)
      ∙ (ap length (unclosed-append [] xs (take (r - length xs) ys)) ∙ ap (λ z. length (unclosed z (take (r - length xs) ys))) (unclosed-balanced [] b))

  pub path-behind : path (xs ++ ys) r ≡ path ys (r - length xs)
  path-behind =
      ap (λ z. reverse (around [] z)) (take-behind xs ys r h)
      ∙ (ap reverse (around-append [] xs (take (r - length xs) ys)) ∙ ap (λ z. reverse (around z (take (r - length xs) ys))) (around-balanced xs b))

pub unit-behind : (xs ys : List Token) (r : ℕ) → length xs ≤ r → unit_at (xs ++ ys) r ≡ unit_at ys (r - length xs)
unit-behind [] ys r h = ap (unit_at ys) (let e : r ≡ r - 0 = omega arith in e)
unit-behind (x ∷ xs) ys zero h = absurd (omega (arith, h))
unit-behind (x ∷ xs) ys (suc r) h = unit-behind xs ys r (omega (arith, h)) ∙ ap (unit_at ys) (let e : r - length xs ≡ suc r - suc (length xs) = omega arith in e)

-- ---- in the first node

pub depth-first : (xs ys : List Token) (r : ℕ) → r < length xs → depth_at (xs ++ ys) r ≡ depth_at xs r
depth-first xs ys r h = ap (λ z. length (unclosed [] z)) (take-append-le r xs ys (omega (arith, h)))

pub path-first : (xs ys : List Token) (r : ℕ) → r < length xs → path (xs ++ ys) r ≡ path xs r
path-first xs ys r h = ap (λ z. reverse (around [] z)) (take-append-le r xs ys (omega (arith, h)))

pub unit-first : (xs ys : List Token) (r : ℕ) → r < length xs → unit_at (xs ++ ys) r ≡ unit_at xs r
unit-first [] ys r h = absurd (omega (arith, h))
unit-first (Open k a m ∷ xs) ys zero h = refl
unit-first (Close ∷ xs) ys zero h = refl
unit-first (Leaf k a m ∷ xs) ys zero h = refl
unit-first (CodeUnit u m ∷ xs) ys zero h = refl
unit-first (x ∷ xs) ys (suc r) h = unit-first xs ys r (omega (arith, h))

-- ---- in a node with content

take-inside : (n : Node) (inner : List Token) (pos : ℕ) → n.body ≡ Children inner → 0 < pos → pos < length (node_tokens n) → take pos (node_tokens n) ≡ Open n.kind n.attrs n.marks ∷ take (pos - 1) inner
take-inside n inner pos is h lt =
    let ts : node_tokens n ≡ Open n.kind n.attrs n.marks ∷ (inner ++ (Close ∷ [])) = node_tokens_at n (Children inner) is in
    let p : pos ≡ suc (pos - 1) = omega (arith, h) in
    let le : pos - 1 ≤ length inner = omega (arith, lt, ap length ts, length-append inner (Close ∷ [])) in
    ap (λ z. take z (node_tokens n)) p ∙ (ap (take (suc (pos - 1))) ts ∙ ap (λ z. Open n.kind n.attrs n.marks ∷ z) (take-append-le (pos - 1) inner (Close ∷ []) le))

pub depth-inside : (n : Node) (inner : List Token) (pos : ℕ) → n.body ≡ Children inner → Balanced inner → 0 < pos → pos < length (node_tokens n) → depth_at (node_tokens n) pos ≡ 1 + depth_at inner (pos - 1)
depth-inside n inner pos is b h lt =
    omega (arith, ap (λ z. length (unclosed [] z)) (take-inside n inner pos is h lt), depth-under n.kind (pos - 1) b)

pub path-inside : (n : Node) (inner : List Token) (pos : ℕ) → n.body ≡ Children inner → Balanced inner → 0 < pos → pos < length (node_tokens n) → path (node_tokens n) pos ≡ Open n.kind n.attrs n.marks ∷ path inner (pos - 1)
path-inside n inner pos is b h lt =
    let o = Open n.kind n.attrs n.marks in
    let x = take (pos - 1) inner in
    let met : unmet 0 x ≡ 0 = omega (arith, unmet-append [] x (drop (pos - 1) inner), ap (unmet 0) (take-append-drop (pos - 1) inner), (balanced-whole b).met) in
    ap (λ z. reverse (around [] z)) (take-inside n inner pos is h lt) ∙ (ap reverse (around-under [] (o ∷ []) x met) ∙ reverse-append (around [] x) (o ∷ []))

pub unit-inside : (n : Node) (inner : List Token) (pos : ℕ) → n.body ≡ Children inner → 0 < pos → pos ≤ length inner → unit_at (node_tokens n) pos ≡ unit_at inner (pos - 1)
unit-inside n inner zero is h le = absurd (omega (arith, h))
unit-inside n inner (suc p) is h le =
    ap (λ z. unit_at z (suc p)) (node_tokens_at n (Children inner) is) ∙ (behind p le ∙ ap (unit_at inner) (let e : p ≡ suc p - 1 = omega arith in e))
  where
    close : (xs : List Token) (q : ℕ) → q ≤ length xs → unit_at (xs ++ (Close ∷ [])) q ≡ unit_at xs q
    close [] zero k = refl
    close [] (suc q) k = absurd (omega (arith, k))
    close (Open k a m ∷ xs) zero h = refl
    close (Close ∷ xs) zero h = refl
    close (Leaf k a m ∷ xs) zero h = refl
    close (CodeUnit u m ∷ xs) zero h = refl
    close (x ∷ xs) (suc q) k = close xs q (omega (arith, k))

    behind : (q : ℕ) → suc q ≤ length inner → unit_at (inner ++ (Close ∷ [])) q ≡ unit_at inner q
    behind q k = close inner q (omega (arith, k))

pub unit-outside : (n : Node) (inner : List Token) (pos : ℕ) → n.body ≡ Children inner → pos < length (node_tokens n) → length inner < pos → unit_at (node_tokens n) pos ≡ None
unit-outside n inner pos is lt gt =
    let ts : node_tokens n ≡ (Open n.kind n.attrs n.marks ∷ inner) ++ (Close ∷ []) = node_tokens_at n (Children inner) is in
    let at : pos ≡ length (Open n.kind n.attrs n.marks ∷ inner) = omega (arith, gt, lt, ap length ts, length-append (Open n.kind n.attrs n.marks ∷ inner) (Close ∷ [])) in
    ap (λ z. unit_at z pos) ts ∙ (unit-behind (Open n.kind n.attrs n.marks ∷ inner) (Close ∷ []) pos (omega (arith, at)) ∙ ap (unit_at (Close ∷ [])) (let e : pos - length (Open n.kind n.attrs n.marks ∷ inner) ≡ 0 = omega (arith, at) in e))

pub unit-open : (n : Node) (inner : List Token) (pos : ℕ) → n.body ≡ Children inner → pos ≡ 0 → unit_at (node_tokens n) pos ≡ None
unit-open n inner pos is z = ap (λ p. unit_at (node_tokens n) p) z ∙ ap (λ ts. unit_at ts 0) (node_tokens_at n (Children inner) is)

-- ---- in a text or a leaf

unclosed-text : (s : List ℕ) (n : ℕ) (m : Marks) (us : List ℕ) → unclosed s (take n (text_tokens m us)) ≡ s
unclosed-text s zero m us = refl
unclosed-text s (suc n) m [] = refl
unclosed-text s (suc n) m (u ∷ us) = unclosed-text s n m us

flat-depth : (k : ℕ) (a : Attrs) (m : Marks) (b : Body) (pos : ℕ) → ((x : List Token) → b ≡ Children x → ⊥) → depth_at (body_tokens k a m b) pos ≡ 0
flat-depth k a m (Text us) pos h = ap length (unclosed-text [] pos m us)
flat-depth k a m Childless zero h = refl
flat-depth k a m Childless (suc n) h = ap (λ z. length (unclosed [] z)) (take-nil n)
flat-depth k a m (Children ts) pos h = absurd (h ts refl)

pub depth-flat : (n : Node) (pos : ℕ) → ((x : List Token) → n.body ≡ Children x → ⊥) → depth_at (node_tokens n) pos ≡ 0
depth-flat n pos h = flat-depth n.kind n.attrs n.marks n.body pos h

pub path-flat : (n : Node) (pos : ℕ) → ((x : List Token) → n.body ≡ Children x → ⊥) → path (node_tokens n) pos ≡ []
path-flat n pos h = ap reverse (nil_from_length (around [] (take pos (node_tokens n))) (around-length [] [] (take pos (node_tokens n)) refl ∙ depth-flat n pos h))

unit-units : (m : Marks) (us : List ℕ) (pos : ℕ) → pos < length us → unit_at (text_tokens m us) pos ≡ Some (get_or us pos 0)
unit-units m [] pos h = absurd (omega (arith, h))
unit-units m (u ∷ us) zero h = refl
unit-units m (u ∷ us) (suc p) h = unit-units m us p (omega (arith, h))

pub unit-text : (n : Node) (us : List ℕ) (pos : ℕ) → n.body ≡ Text us → pos < length us → unit_at (node_tokens n) pos ≡ Some (get_or us pos 0)
unit-text n us pos is h = ap (λ ts. unit_at ts pos) (node_tokens_at n (Text us) is) ∙ unit-units n.marks us pos h

pub unit-leaf : (n : Node) (pos : ℕ) → n.body ≡ Childless → unit_at (node_tokens n) pos ≡ None
unit-leaf n pos is = ap (λ ts. unit_at ts pos) (node_tokens_at n Childless is) ∙ none pos
  where
    none : (p : ℕ) → unit_at (Leaf n.kind n.attrs n.marks ∷ []) p ≡ None
    none zero = refl
    none (suc p) = ap first_unit (drop-nil p)

-- ---- pairs

starts-low-is : (ts : List Token) → starts_low ts ≡ low_unit (first_unit ts)
starts-low-is [] = refl
starts-low-is (Open k a m ∷ ts) = refl
starts-low-is (Close ∷ ts) = refl
starts-low-is (Leaf k a m ∷ ts) = refl
starts-low-is (CodeUnit u m ∷ ts) = refl

is-high-is : (t : Token) (ts : List Token) → is_high t ≡ high_unit (first_unit (t ∷ ts))
is-high-is (Open k a m) ts = refl
is-high-is Close ts = refl
is-high-is (Leaf k a m) ts = refl
is-high-is (CodeUnit u m) ts = refl

-- the token before a position within the list, and past its end
both-are : (ts : List Token) (p : ℕ) → (ends_high (take (suc p) ts) && starts_low (drop (suc p) ts)) ≡ (high_unit (unit_at ts p) && low_unit (unit_at ts (suc p)))
both-are [] zero = refl
both-are [] (suc p) = refl
both-are (t ∷ ts) zero =
    ap (λ z. z && starts_low ts) (is-high-is t ts) ∙ ap (λ z. high_unit (first_unit (t ∷ ts)) && z) (starts-low-is ts)
both-are (t ∷ []) (suc p) = and-right (is_high t) ∙ sym (and-right (high_unit (first_unit (drop p []))))
both-are (t ∷ (u ∷ ts)) (suc p) = both-are (u ∷ ts) p

pub parts-is : (ts : List Token) (p : ℕ) → 0 < p → parts_pair ts p ≡ (high_unit (unit_at ts (p - 1)) && low_unit (unit_at ts p))
parts-is ts zero h = absurd (omega (arith, h))
parts-is ts (suc p) h = both-are ts p ∙ ap (λ q. high_unit (unit_at ts q) && low_unit (unit_at ts (suc p))) (let e : p ≡ suc p - 1 = omega arith in e)
