-- Neighbours among children: parts of a list of nodes.
use Rattle.std.specs.Prelude.{◌≡◌, ℕ, ◌+◌, ◌-◌, ◌≤◌, ◌<◌, ◌^◌, List, [], ◌∷◌, ◌++◌, length, take, drop, get_or}
use Rattle.std.specs.declared.sync.Arc.{Arc}
use Rattle.std.specs.Arc.{arc_value}
use Rattle.std.proofs.Common.{zero, suc, ap, sym, ◌∙◌, subst, arith, length-append}
use Rattle.std.proofs.lemmas.List.{append-nil, drop_more, drop-drop}
use Rattle.std.proofs.Math.Seq.{take-add}
use Rattle.pm_tokens.specs.Scan.{Balanced, none, part}
use Rattle.pm_tokens.proofs.BalanceLaws.{balanced-append}
use Rattle.pm_node.specs.declared.node.Node.{Node}
use Rattle.pm_node.specs.Trees.{node_tokens, list_tokens, IsNormal, EachWhole}
use Rattle.pm_node.proofs.TreeLaws.{list_tokens-append}
use Rattle.pm_node.proofs.WalkLaws.{whole-node, normal-rest, each-rest}

-- a part is what comes before a place in it, and what comes after
pub part-at : {A : Type 0} (f m t : ℕ) (xs : List A) → f ≤ m → m ≤ t → part f t xs ≡ part f m xs ++ part m t xs
part-at f m t xs h k =
    let n : t - f ≡ (m - f) + (t - m) = omega (arith, h, k) in
    let e : f + (m - f) ≡ m = omega (arith, h) in
    ap (λ z. take z (drop f xs)) n ∙ (take-add (m - f) (t - m) (drop f xs) ∙ ap (λ z. take (m - f) (drop f xs) ++ take (t - m) z) (drop-drop (m - f) f xs ∙ ap (λ z. drop z xs) e))

-- one item
pub part-one : {A : Type 0} (i : ℕ) (xs : List A) (x : A) → i < length xs → x ≡ get_or xs i x → part i (i + 1) xs ≡ x ∷ []
part-one i xs x h r =
    let n : (i + 1) - i ≡ 1 = omega arith in
    ap (λ z. take z (drop i xs)) n ∙ (ap (take 1) (drop_more xs i x h) ∙ ap (λ z. z ∷ []) (sym r))

module _ {Z : Type 0} (xs : List (Arc Node Z)) (f : ℕ) where
  -- the tokens with those of one more node
  pub run-more : (i : ℕ) (x : Arc Node Z) → f ≤ i → i < length xs → x ≡ get_or xs i x → list_tokens (part f (i + 1) xs) ≡ list_tokens (part f i xs) ++ node_tokens (arc_value x)
  run-more i x h l r =
      ap list_tokens (part-at f i (i + 1) xs h (omega arith) ∙ ap (λ z. part f i xs ++ z) (part-one i xs x l r))
      ∙ (list_tokens-append (part f i xs) (x ∷ []) ∙ ap (λ z. list_tokens (part f i xs) ++ z) (append-nil (node_tokens (arc_value x))))

  -- a shorter run has no more tokens
  pub run-room : (i t : ℕ) → f ≤ i → i ≤ t → length (list_tokens (part f i xs)) ≤ length (list_tokens (part f t xs))
  run-room i t h k =
      omega (arith, ap (λ z. length (list_tokens z)) (part-at f i t xs h k), ap length (list_tokens-append (part f i xs) (part i t xs)), length-append (list_tokens (part f i xs)) (list_tokens (part i t xs)))

-- a run of nodes in normal form is in normal form
pub normal-front : {Z : Type 0} (n : ℕ) (xs : List (Arc Node Z)) → IsNormal xs → IsNormal (take n xs)
normal-front zero xs h = tt
normal-front (suc n) [] h = tt
normal-front (suc zero) (x ∷ xs) h = (h.0, tt, tt)
normal-front (suc (suc n)) (x ∷ []) h = h
normal-front (suc (suc n)) (x ∷ (y ∷ ys)) h = (h.0, h.1, normal-front (suc n) (y ∷ ys) h.2)

each-front-part : {Z : Type 0} (n : ℕ) (xs : List (Arc Node Z)) → EachWhole xs → EachWhole (take n xs)
each-front-part zero xs h = tt
each-front-part (suc n) [] h = tt
each-front-part (suc n) (x ∷ xs) h = (h.0, each-front-part n xs h.1)

pub normal-run : {Z : Type 0} (f t : ℕ) (xs : List (Arc Node Z)) → IsNormal xs → IsNormal (part f t xs)
normal-run f t xs h = normal-front (t - f) (drop f xs) (normal-rest xs f h)

pub each-run : {Z : Type 0} (f t : ℕ) (xs : List (Arc Node Z)) → EachWhole xs → EachWhole (part f t xs)
each-run f t xs h = each-front-part (t - f) (drop f xs) (each-rest xs f h)

-- a run of whole nodes is a whole number of nodes
pub whole-nodes : {Z : Type 0} (xs : List (Arc Node Z)) → EachWhole xs → Balanced (list_tokens xs)
whole-nodes [] h = none
whole-nodes (x ∷ xs) h = balanced-append (whole-node (arc_value x) h.0) (whole-nodes xs h.1)
