-- A part of the tokens of nodes between two positions: of the node in which the first one stands, of the whole nodes between,
-- and of the node in which the second one stands.
use Rattle.std.specs.Prelude.{◌≡◌, ℕ, ◌+◌, ◌-◌, ◌≤◌, ◌<◌, min, List, [], ◌∷◌, ◌++◌, length, take, drop, get_or}
use Rattle.std.specs.declared.sync.Arc.{Arc}
use Rattle.std.specs.Arc.{arc_value}
use Rattle.std.proofs.Common.{zero, suc, inl, inr, refl, ap, sym, ◌∙◌, arith, length-append, length-drop}
use Rattle.std.proofs.lemmas.Bool.{cases_lt}
use Rattle.std.proofs.lemmas.List.{append-nil, take_all, take-append-drop, drop-drop}
use Rattle.std.proofs.Math.Seq.{take-add}
use Rattle.pm_tokens.specs.Tokens.{Token}
use Rattle.pm_tokens.specs.Scan.{owned, part, Balanced}
use Rattle.pm_tokens.proofs.ListLaws.{drop_over, part_none, part_past}
use Rattle.pm_tokens.proofs.ScanLaws.{length-owned}
use Rattle.pm_tokens.proofs.OwnedParts.{owned-more, part-more, part_min}
use Rattle.pm_node.specs.Among.{Stands}
use Rattle.pm_node.specs.declared.node.Node.{Node}
use Rattle.pm_node.specs.Trees.{node_tokens, list_tokens, IsNormal, EachWhole}
use Rattle.pm_node.proofs.TreeLaws.{list_tokens-append}
use Rattle.pm_node.proofs.WalkLaws.{front, front-more, list-split, rest, child-at}
use Rattle.pm_node.proofs.RunLaws.{part-at, part-one}
use Rattle.pm_node.proofs.ChangeLaws.{whole-list, each-take, each-drop}

-- ---- runs of whole nodes

pub front-whole : {Z : Type 0} (xs : List (Arc Node Z)) (i : ℕ) → EachWhole xs → Balanced (front xs i)
front-whole xs i w = whole-list (take i xs) (each-take i xs w)

pub run-whole : {Z : Type 0} (xs : List (Arc Node Z)) (i j : ℕ) → EachWhole xs → Balanced (list_tokens (part i j xs))
run-whole xs i j w = whole-list (part i j xs) (each-take (j - i) (drop i xs) (each-drop i xs w))

-- the nodes before j are those before i and a run
module _ {Z : Type 0} (xs : List (Arc Node Z)) (i j : ℕ) (h : i ≤ j) where
  front-run : front xs j ≡ front xs i ++ list_tokens (part i j xs)
  front-run =
      let e : j ≡ i + (j - i) = omega (arith, h) in
      ap (front xs) e ∙ (ap list_tokens (take-add i (j - i) xs) ∙ list_tokens-append (take i xs) (part i j xs))

  front-longer : length (front xs j) ≡ length (front xs i) + length (list_tokens (part i j xs))
  front-longer = ap length front-run ∙ length-append (front xs i) (list_tokens (part i j xs))

  rest-run : rest xs i ≡ list_tokens (part i j xs) ++ rest xs j
  rest-run =
      let e : i + (j - i) ≡ j = omega (arith, h) in
      ap list_tokens (sym (take-append-drop (j - i) (drop i xs)) ∙ ap (λ z. part i j xs ++ z) (drop-drop (j - i) i xs ∙ ap (λ n. drop n xs) e)) ∙ list_tokens-append (part i j xs) (drop j xs)

  all-run : list_tokens xs ≡ front xs i ++ (list_tokens (part i j xs) ++ rest xs j)
  all-run = ap list_tokens (sym (take-append-drop i xs)) ∙ (list_tokens-append (take i xs) (drop i xs) ∙ ap (λ z. front xs i ++ z) rest-run)

-- a run of one node
pub run-one : {Z : Type 0} (xs : List (Arc Node Z)) (i : ℕ) (x : Arc Node Z) → i < length xs → x ≡ get_or xs i x → list_tokens (part i (i + 1) xs) ≡ node_tokens (arc_value x)
run-one xs i x h e = ap list_tokens (part-one i xs x h e) ∙ append-nil (node_tokens (arc_value x))

-- the first node of a run
pub run-first : {Z : Type 0} (xs : List (Arc Node Z)) (i j : ℕ) (x : Arc Node Z) → i < j → i < length xs → x ≡ get_or xs i x → list_tokens (part i j xs) ≡ node_tokens (arc_value x) ++ list_tokens (part (i + 1) j xs)
run-first xs i j x l h e =
    ap list_tokens (part-at i (i + 1) j xs (omega arith) (omega (arith, l))) ∙ (list_tokens-append (part i (i + 1) xs) (part (i + 1) j xs) ∙ ap (λ z. z ++ list_tokens (part (i + 1) j xs)) (run-one xs i x h e))

-- ---- parts of tokens

part-behind : (f t r s : ℕ) (xs ys : List Token) → Balanced xs → length xs + r ≡ f → length xs + s ≡ t → part f t (owned [] (xs ++ ys)) ≡ part r s (owned [] ys)
part-behind f t r s xs ys b e g =
    let n = length xs in
    let er : f - n ≡ r = omega (arith, e) in
    let es : t - n ≡ s = omega (arith, g) in
    part-more f t xs ys b ∙ (ap (λ z. z ++ part (f - n) (t - n) (owned [] ys)) (part_past f t (owned [] xs) (omega (arith, e, length-owned [] xs))) ∙ (ap (λ m. part m (t - n) (owned [] ys)) er ∙ ap (λ m. part r m (owned [] ys)) es))

part-front : (r s : ℕ) (xs ys : List Token) → Balanced xs → s ≤ length xs → part r s (owned [] (xs ++ ys)) ≡ part r s (owned [] xs)
part-front r s xs ys b h =
    let n = length xs in
    part-more r s xs ys b ∙ (ap (λ z. part r s (owned [] xs) ++ z) (part_none (r - n) (s - n) (owned [] ys) (omega (arith, h))) ∙ append-nil (part r s (owned [] xs)))

part-over : (r s : ℕ) (xs ys : List Token) → Balanced xs → r ≤ length xs → part r (length xs + s) (owned [] (xs ++ ys)) ≡ drop r (owned [] xs) ++ part 0 s (owned [] ys)
part-over r s xs ys b h =
    let n = length xs in
    let e0 : r - n ≡ 0 = omega (arith, h) in
    let es : n + s - n ≡ s = omega arith in
    let l : length (drop r (owned [] xs)) ≤ n + s - r = omega (arith, length-drop r (owned [] xs), length-owned [] xs) in
    part-more r (n + s) xs ys b ∙ (ap (λ z. z ++ part (r - n) (n + s - n) (owned [] ys)) (take_all (n + s - r) (drop r (owned [] xs)) l) ∙ ap (λ z. drop r (owned [] xs) ++ z) (ap (λ m. part m (n + s - n) (owned [] ys)) e0 ∙ ap (λ m. part 0 m (owned [] ys)) es))

-- without the first tokens of the first of two pieces
pub drop-first : (r : ℕ) (xs ys : List Token) → Balanced xs → r ≤ length xs → drop r (owned [] (xs ++ ys)) ≡ part r (length xs) (owned [] xs) ++ owned [] ys
drop-first r xs ys b h =
    let own = owned [] xs in
    let e0 : r - length own ≡ 0 = omega (arith, h, length-owned [] xs) in
    let l : length (drop r own) ≤ length xs - r = omega (arith, length-drop r own, length-owned [] xs) in
    ap (drop r) (owned-more xs ys b) ∙ (drop_over r own (owned [] ys) ∙ (ap (λ n. drop r own ++ drop n (owned [] ys)) e0 ∙ ap (λ z. z ++ owned [] ys) (sym (take_all (length xs - r) (drop r own) l))))

-- a part ends with its list
pub part-clipped : (f t size end : ℕ) (xs : List Token) → size ≡ length xs → end ≡ min size t → part f end (owned [] xs) ≡ part f t (owned [] xs)
part-clipped f t size end xs e h =
    let own = owned [] xs in
    let c : end ≡ min (length own) t = h ∙ ap (λ n. min n t) (e ∙ sym (length-owned [] xs)) in
    ap (λ n. part f n own) c ∙ part_min f t own

-- a run without the first tokens of its first node
pub run-rest : {Z : Type 0} (xs : List (Arc Node Z)) (i j r : ℕ) (x : Arc Node Z) → IsNormal xs → EachWhole xs → i < j → i < length xs → x ≡ get_or xs i x → r ≤ length (node_tokens (arc_value x))
    → drop r (owned [] (list_tokens (part i j xs))) ≡ part r (length (node_tokens (arc_value x))) (owned [] (node_tokens (arc_value x))) ++ owned [] (list_tokens (part (i + 1) j xs))
run-rest xs i j r x n w l h e k =
    ap (λ z. drop r (owned [] z)) (run-first xs i j x l h e) ∙ drop-first r (node_tokens (arc_value x)) (list_tokens (part (i + 1) j xs)) (child-at xs i x n w h e).whole k

-- ---- between two positions

record Item {A : Type 0} (xs : List A) (i : ℕ) : Type 0 where
  item : A
  read : item ≡ get_or xs i item

item-at : {A : Type 0} (xs : List A) (i : ℕ) → i < length xs → Item xs i
item-at [] i h = absurd (omega (arith, h))
item-at (x ∷ xs) zero h = record { item = x; read = refl }
item-at (x ∷ xs) (suc i) h = let r = item-at xs i (omega (arith, h)) in record { item = r.item; read = r.read }

-- a position is before the end of the node that it stands in
stands-before : {Z : Type 0} (xs : List (Arc Node Z)) (t j s : ℕ) → Stands xs t j s → j < length xs → t < length (front xs (j + 1))
stands-before xs t j s b h =
    let x = item-at xs j h in
    omega (arith, b.offset, b.inside x.item h x.read, ap length (front-more xs j x.item h x.read), length-append (front xs j) (node_tokens (arc_value x.item)))

module _ {Z : Type 0} (xs : List (Arc Node Z)) (f t i r j s : ℕ) (a : Stands xs f i r) (b : Stands xs t j s) (lt : f < t) where
  -- the first one stands in a node
  pub first-within : t ≤ length (list_tokens xs) → i < length xs
  first-within h = elim (cases_lt i (length xs)) [
    | inl p ↦ p
    | inr p ↦ absurd (let e : i ≡ length xs = omega (arith, p, a.within) in omega (arith, lt, h, a.offset, a.at_end e, ap (λ z. length (list_tokens z)) (take_all i xs p)))
  ]

  -- the second one stands in the same node or in a later one
  pub in-order : i ≤ j
  in-order = elim (cases_lt j i) [
    | inl p ↦ absurd (omega (arith, lt, a.offset, stands-before xs t j s b (omega (arith, p, a.within)), front-longer xs (j + 1) i (omega (arith, p))))
    | inr p ↦ p
  ]

  -- the second one stands in a node, unless it is at the end
  pub last-within : (s ≡ 0 → ⊥) → j < length xs
  last-within h = elim (cases_lt j (length xs)) [
    | inl p ↦ p
    | inr p ↦ absurd (h (b.at_end (omega (arith, p, b.within))))
  ]

  -- the first one stands before the end of the first node of the run between them
  pub first-skip : i < length xs → r ≤ length (list_tokens (part i (i + 1) xs))
  first-skip h =
      let x = item-at xs i h in
      omega (arith, a.inside x.item h x.read, ap length (run-one xs i x.item h x.read))

  -- both stand in one node
  pub in-one : (x : Arc Node Z) → IsNormal xs → EachWhole xs → i < length xs → x ≡ get_or xs i x → j ≤ i → part f t (owned [] (list_tokens xs)) ≡ part r s (owned [] (node_tokens (arc_value x)))
  in-one x n w h e le =
      let ts = node_tokens (arc_value x) in
      let same : j ≡ i = omega (arith, le, in-order) in
      let behind : length (front xs i) + s ≡ t = omega (arith, b.offset, ap (λ k. length (front xs k)) same) in
      let inside : s < length ts = b.inside x (omega (arith, h, same)) (e ∙ ap (λ k. get_or xs k x) (sym same)) in
      ap (λ z. part f t (owned [] z)) (list-split xs i x h e)
      ∙ (part-behind f t r s (front xs i) (ts ++ rest xs (i + 1)) (front-whole xs i w) a.offset behind ∙ part-front r s ts (rest xs (i + 1)) (child-at xs i x n w h e).whole (omega (arith, inside)))

  -- the part is what is left of the run between them, and what is before the second one in the nodes from there
  module _ (w : EachWhole xs) (l : i < j) where
    pub run-length : length (list_tokens (part i j xs)) + s ≡ r + (t - f)
    run-length = omega (arith, lt, a.offset, b.offset, front-longer xs i j (omega (arith, l)))

    pub run-holds : r ≤ length (list_tokens (part i j xs))
    run-holds = omega (arith, a.offset, stands-before xs f i r a (omega (arith, l, b.within)), front-longer xs i j (omega (arith, l)), front-longer xs (i + 1) j (omega (arith, l)))

    pub across : part f t (owned [] (list_tokens xs)) ≡ drop r (owned [] (list_tokens (part i j xs))) ++ part 0 s (owned [] (rest xs j))
    across =
        let run = list_tokens (part i j xs) in
        let behind : length (front xs i) + (length run + s) ≡ t = omega (arith, b.offset, front-longer xs i j (omega (arith, l))) in
        ap (λ z. part f t (owned [] z)) (all-run xs i j (omega (arith, l)))
        ∙ (part-behind f t r (length run + s) (front xs i) (run ++ rest xs j) (front-whole xs i w) a.offset behind ∙ part-over r s run (rest xs j) (run-whole xs i j w) run-holds)

    -- the second one stands between nodes, and in a node
    pub across-whole : s ≡ 0 → part f t (owned [] (list_tokens xs)) ≡ drop r (owned [] (list_tokens (part i j xs)))
    across-whole z =
        let run = owned [] (list_tokens (part i j xs)) in
        across ∙ (ap (λ y. drop r run ++ y) (part_none 0 s (owned [] (rest xs j)) (omega (arith, z))) ∙ append-nil (drop r run))

    pub across-cut : (x : Arc Node Z) → IsNormal xs → j < length xs → x ≡ get_or xs j x → part f t (owned [] (list_tokens xs)) ≡ drop r (owned [] (list_tokens (part i j xs))) ++ part 0 s (owned [] (node_tokens (arc_value x)))
    across-cut x n h e =
        let run = owned [] (list_tokens (part i j xs)) in
        let k = child-at xs j x n w h e in
        across ∙ ap (λ y. drop r run ++ y) (ap (λ z. part 0 s (owned [] z)) k.tokens ∙ part-front 0 s (node_tokens (arc_value x)) (rest xs (j + 1)) k.whole (omega (arith, b.inside x h e)))
