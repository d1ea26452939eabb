-- The children that have a token in a range: where they begin and end.
use Rattle.std.specs.Prelude.{◌≡◌, ℕ, ◌+◌, ◌-◌, ◌≤◌, ◌<◌, min, List, [], ◌∷◌, ◌++◌, length, take, drop, get_or}
use Rattle.std.specs.declared.sync.Arc.{Arc}
use Rattle.std.specs.Arc.{arc_value}
use Rattle.std.proofs.Common.{zero, suc, inl, inr, ◌⊎◌, refl, ap, sym, ◌∙◌, arith, length-append}
use Rattle.std.proofs.lemmas.Bool.{cases_lt}
use Rattle.std.proofs.lemmas.List.{append-nil, drop_all, take-append-drop}
use Rattle.pm_tokens.specs.Scan.{part}
use Rattle.pm_tokens.proofs.PartLaws.{drop-part}
use Rattle.pm_node.specs.declared.node.Node.{Node}
use Rattle.pm_node.specs.Trees.{node_tokens, list_tokens}
use Rattle.pm_node.specs.Among.{Stands}
use Rattle.pm_node.proofs.TreeLaws.{list_tokens-append}
use Rattle.pm_node.proofs.WalkLaws.{front, rest, rest-end}
use Rattle.pm_apply.specs.Between.{IsBetween}

-- ---- the children before one, and those from one on

part-front : {A : Type 0} (n : ℕ) (xs : List A) → part 0 n xs ≡ take n xs
part-front n xs = let e : n - 0 ≡ n = omega arith in ap (λ k. take k xs) e

part-behind : {A : Type 0} (i n : ℕ) (xs : List A) → n ≡ length xs → i ≤ n → part i n xs ≡ drop i xs
part-behind i n xs e h =
    sym (drop-part xs i n h ∙ (ap (λ z. part i n xs ++ z) (drop_all n xs (omega (arith, e))) ∙ append-nil (part i n xs)))

module _ {Z : Type 0} (xs : List (Arc Node Z)) (i : ℕ) where
  pub front-is : list_tokens (part 0 i xs) ≡ front xs i
  front-is = ap list_tokens (part-front i xs)

  pub rest-is : (n : ℕ) → n ≡ length xs → i ≤ n → list_tokens (part i n xs) ≡ rest xs i
  rest-is n e h = ap list_tokens (part-behind i n xs e h)

  pub front-rest : list_tokens xs ≡ front xs i ++ rest xs i
  front-rest = ap list_tokens (sym (take-append-drop i xs)) ∙ list_tokens-append (take i xs) (drop i xs)

  pub front-all : length (front xs i) ≤ length (list_tokens xs)
  front-all = omega (arith, ap length front-rest, length-append (front xs i) (rest xs i))

-- where no child from i on has a token in the range, there is none left, or the range ends before
pub behind-range : {Z : Type 0} (xs : List (Arc Node Z)) (i from to : ℕ) → from ≤ to → (i < length xs → to ≤ length (front xs i)) → (to - length (front xs i) ≤ from - length (front xs i)) ⊎ (rest xs i ≡ [])
behind-range xs i from to h stop = elim (cases_lt i (length xs)) [
  | inl l ↦ inl (omega (arith, stop l))
  | inr g ↦ inr (rest-end xs i (omega (arith, g)))
]

-- ---- where they stand

-- more children have no fewer tokens
front-up : {Z : Type 0} (xs : List (Arc Node Z)) (i j : ℕ) → i ≤ j → length (front xs i) ≤ length (front xs j)
front-up xs zero j h = omega arith
front-up [] (suc i) j h = omega arith
front-up (x ∷ xs) (suc i) zero h = absurd (omega (arith, h))
front-up (x ∷ xs) (suc i) (suc j) h =
    omega (arith, front-up xs i j (omega (arith, h)), length-append (node_tokens (arc_value x)) (front xs i), length-append (node_tokens (arc_value x)) (front xs j))

-- a place in a child is before its end
in-child : {Z : Type 0} (xs : List (Arc Node Z)) (j k s : ℕ) → ((x : Arc Node Z) → j < length xs → x ≡ get_or xs j x → s < length (node_tokens (arc_value x))) → j < length xs → k ≡ j + 1
    → length (front xs j) + s < length (front xs k)
in-child [] j k s f h e = absurd (omega (arith, h))
in-child (x ∷ xs) zero zero s f h e = absurd (omega (arith, e))
in-child (x ∷ xs) zero (suc k) s f h e =
    let z : k ≡ 0 = omega (arith, e) in
    omega (arith, f x h refl, length-append (node_tokens (arc_value x)) (front xs k))
in-child (x ∷ xs) (suc j) zero s f h e = absurd (omega (arith, e))
in-child (x ∷ xs) (suc j) (suc k) s f h e =
    omega (arith, in-child xs j k s (λ y i r. f y (omega (arith, i)) r) (omega (arith, h)) (omega (arith, e)), length-append (node_tokens (arc_value x)) (front xs j), length-append (node_tokens (arc_value x)) (front xs k))

module _ {Z : Type 0} {xs : List (Arc Node Z)} where
  pub stands-there : {p i r : ℕ} → Stands xs p i r → 0 < r → i < length xs
  stands-there {i = i} w h = elim (cases_lt i (length xs)) [
    | inl l ↦ l
    | inr g ↦ absurd (omega (arith, h, w.at_end (omega (arith, g, w.within))))
  ]

  -- a position after another is in no earlier child
  stands-order : {p i r q j s : ℕ} → Stands xs p i r → Stands xs q j s → p ≤ q → i ≤ j
  stands-order {i = i} {j = j} v w h = elim (cases_lt j i) [
    | inl l ↦ absurd (omega (arith, h, v.offset, w.offset, in-child xs j (j + 1) _ w.inside (omega (arith, l, v.within)) refl, front-up xs (j + 1) i (omega (arith, l))))
    | inr g ↦ omega (arith, g)
  ]

  -- the children after a position begin at it or after it
  stands-stops : {p i r : ℕ} → Stands xs p i r → (to end : ℕ) → p ≡ min to (length (list_tokens xs)) → i ≤ end → (0 < r → end ≡ i + 1) → end < length xs → to ≤ length (front xs end)
  stands-stops {i = i} {r = r} w to end e o n l =
      let g = in-child xs i (i + 1) r w.inside (omega (arith, o, l)) refl in
      let u = front-up xs i end o in
      let a = front-all xs (i + 1) in
      elim (cases_lt 0 r) [
        | inl p ↦ (let k : length (front xs (i + 1)) ≡ length (front xs end) = ap (λ z. length (front xs z)) (sym (n p)) in omega (arith, e, w.offset, g, a, k))
        | inr p ↦ omega (arith, e, w.offset, g, a, u, p)
      ]

  pub between-is : {p i r q j s : ℕ} → Stands xs p i r → Stands xs q j s → (from to end : ℕ) → from ≤ to → p ≡ min from (length (list_tokens xs)) → q ≡ min to (length (list_tokens xs))
      → (0 < s → end ≡ j + 1) → (s ≡ 0 → end ≡ j) → IsBetween xs from to i end (p - r)
  between-is {p = p} {i = i} {r = r} {q = q} {j = j} {s = s} v w from to end h e f more same =
      let o : i ≤ j = stands-order v w (omega (arith, h, e, f)) in
      let up : j ≤ end = elim (cases_lt 0 s) [ inl k ↦ omega (arith, more k) | inr k ↦ omega (arith, same (omega (arith, k))) ] in
      let lim : end ≤ length xs = elim (cases_lt 0 s) [ inl k ↦ omega (arith, more k, stands-there w k) | inr k ↦ omega (arith, same (omega (arith, k)), w.within) ] in
      record {
        order = omega (arith, o, up);
        within = lim;
        counted = omega (arith, v.offset);
        starts = omega (arith, e, v.offset);
        stops = stands-stops w to end f up more;
      }
