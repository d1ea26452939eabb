-- A walk of an automaton over the types of children.
use Rattle.std.specs.Prelude.{◌≡◌, ℕ, ◌+◌, ◌-◌, ◌<◌, ◌≤◌, false, Some, None, List, [], ◌∷◌, ◌++◌, length, take, drop, get_or}
use Rattle.std.specs.declared.sync.Arc.{Arc}
use Rattle.std.specs.Arc.{arc_value}
use Rattle.std.proofs.Common.{refl, ap, sym, ◌∙◌, arith}
use Rattle.std.proofs.lemmas.List.{at_drop_more, take_more}
use Rattle.pm_auto.specs.declared.sets.PlaceSet.{PlaceSet}
use Rattle.pm_auto.specs.declared.auto.Edge.{Edge}
use Rattle.pm_auto.specs.Walks.{target, edges_at, via, accepted}
use Rattle.pm_node.specs.declared.node.Node.{Node}
use Rattle.pm_tokens.specs.Scan.{part}
use Rattle.pm_node.specs.Kinds.{kind_in, kinds}
use Rattle.pm_node.proofs.RunLaws.{part-at, part-one}

pub kinds-drop : {Z : Type 0} (text : ℕ) (xs : List (Arc Node Z)) (i : ℕ) (x : Arc Node Z) → i < length xs → x ≡ get_or xs i x → kinds text (drop i xs) ≡ kind_in text (arc_value x) ∷ kinds text (drop (i + 1) xs)
kinds-drop text xs i x h r = at_drop_more (kinds text) xs i x h ∙ ap (λ z. kind_in text (arc_value z) ∷ kinds text (drop (i + 1) xs)) (sym r)

-- where the state has no edge of the type, the list leads nowhere
pub accepted-none : (ss : List PlaceSet) (ess : List (List Edge)) (s k : ℕ) (w : List ℕ) → target k (edges_at ess s) ≡ None → accepted ss ess s (k ∷ w) ≡ false
accepted-none ss ess s k w e = ap (via (λ t. accepted ss ess t w)) e

pub accepted-more : (ss : List PlaceSet) (ess : List (List Edge)) (s k t : ℕ) (w : List ℕ) → target k (edges_at ess s) ≡ Some t → accepted ss ess s (k ∷ w) ≡ accepted ss ess t w
accepted-more ss ess s k t w e = ap (via (λ t. accepted ss ess t w)) e

pub kinds-append : {Z : Type 0} (text : ℕ) (xs ys : List (Arc Node Z)) → kinds text (xs ++ ys) ≡ kinds text xs ++ kinds text ys
kinds-append text [] ys = refl
kinds-append text (x ∷ xs) ys = ap (λ z. kind_in text (arc_value x) ∷ z) (kinds-append text xs ys)

pub kinds-part : {Z : Type 0} (text : ℕ) (xs : List (Arc Node Z)) (i to : ℕ) (x : Arc Node Z) → i < to → i < length xs → x ≡ get_or xs i x
    → kinds text (part i to xs) ≡ kind_in text (arc_value x) ∷ kinds text (part (i + 1) to xs)
kinds-part text xs i to x l h r = ap (kinds text) (part-at i (i + 1) to xs (omega arith) (omega (arith, l)) ∙ ap (λ z. z ++ part (i + 1) to xs) (part-one i xs x h r))

pub part-none : {A : Type 0} (i to : ℕ) (xs : List A) → to ≤ i → part i to xs ≡ []
part-none i to xs h = ap (λ n. take n (drop i xs)) (let e : to - i ≡ 0 = omega (arith, h) in e)

-- the types of the first children, and of one more
pub kinds-last : {Z : Type 0} (text : ℕ) (xs : List (Arc Node Z)) (n u : ℕ) (x : Arc Node Z) → u ≡ n + 1 → n < length xs → x ≡ get_or xs n x → kinds text (take u xs) ≡ kinds text (take n xs) ++ kind_in text (arc_value x) ∷ []
kinds-last text xs n u x e l is =
    ap (λ z. kinds text (take z xs)) e ∙ (ap (kinds text) (take_more xs n x l ∙ ap (λ z. take n xs ++ z ∷ []) (sym is)) ∙ kinds-append text (take n xs) (x ∷ []))
