-- What is ahead at a child, and after it.
use Rattle.std.specs.Prelude.{◌≡◌, ℕ, ◌+◌, ◌-◌, ◌≤◌, ◌<◌, ◌⊎◌, min, Some, List, [], ◌∷◌, ◌++◌, length, take, drop, Result, IfOk}
use Rattle.std.proofs.Common.{zero, suc, inl, inr, refl, ap, sym, ◌∙◌, arith, subst, append_assoc, length-append, length-take, length-drop}
use Rattle.std.proofs.lemmas.List.{append-nil, drop_all, take_min}
use Rattle.std.proofs.lemmas.Result.{IfOk-weaker}
use Rattle.pm_tokens.specs.Tokens.{Marks, Token, Close}
use Rattle.pm_tokens.specs.Kids.{text_tokens}
use Rattle.pm_tokens.specs.Scan.{deepest, depth_at, part}
use Rattle.pm_tokens.proofs.ListLaws.{take_over, take-nil}
use Rattle.pm_node.specs.declared.node.Node.{Node}
use Rattle.pm_node.specs.declared.node.Body.TheVariants.{Text, Leaf as Childless, Children}
use Rattle.pm_node.specs.Trees.{node_tokens, IsText, WholeBody}
use Rattle.pm_node.proofs.TreeLaws.{node_tokens_at}
use Rattle.pm_view.specs.declared.around.Around.{Around}
use Rattle.pm_view.specs.Known.{Head, Known, Opening, Closing, Single, Piece, known, pieces, tokens_of}
use Rattle.pm_view.specs.Parts.{head_of}
use Rattle.pm_view.specs.Seen.{Seen, Run, ArePartsOf}
use Rattle.pm_view.specs.Views.{viewed}
use Rattle.pm_view.specs.Grouped.{grouped}
use Rattle.pm_view.specs.Ahead.{behind_one, behind_all, ahead, IsFlat, AreFlat, FitIn}
use Rattle.pm_view.proofs.ChildLaws.{IsNext, flat-in-child, depth-in-child, drop-within}
use Rattle.pm_view.proofs.DeepLaws.{deepest-least, deepest-pieces}
use Rattle.pm_view.proofs.GroupLaws.{first, EndsText, grouped-are, grouped-run}
use Rattle.pm_view.proofs.KnownLaws.{length-known, known-balanced, known-text, pieces-drop, pieces-take, tokens-viewed}

-- ---- the nodes around

pub behind-push : (os : List Around) (a : Around) → behind_all (os ++ (a ∷ [])) ≡ behind_one a ++ behind_all os
behind-push [] a = sym (append-nil (behind_one a))
behind-push (o ∷ os) a = ap (λ z. z ++ behind_one o) (behind-push os a) ∙ append_assoc (behind_one a) (behind_all os) (behind_one o)

pub flat-push : (os : List Around) (a : Around) → AreFlat os → IsFlat a.content.now a.at → AreFlat (os ++ (a ∷ []))
flat-push [] a w h = (h, tt)
flat-push (o ∷ os) a w h = (w.0, flat-push os a w.1 h)

pub flat-last : (os : List Around) (a : Around) → AreFlat (os ++ (a ∷ [])) → IsFlat a.content.now a.at × AreFlat os
flat-last [] a w = (w.0, tt)
flat-last (o ∷ os) a w = let f = flat-last os a w.1 in (f.0, (w.0, f.1))

first-either : (xs ys : List Known) (t : Known) → first (xs ++ ys) ≡ Some t → (first xs ≡ Some t) ⊎ (first ys ≡ Some t)
first-either [] ys t e = inr e
first-either (x ∷ xs) ys t e = inl e

-- after a node comes its close
behind-ends : (m : Marks) (os : List Around) → EndsText m (behind_all os)
behind-ends m [] v e = absurd (cc)
behind-ends m (o ∷ os) v e = elim (first-either (behind_all os) (behind_one o) (Piece v m) e) [
  | inl l ↦ behind-ends m os v l
  | inr r ↦ absurd (cc)
]

ahead-ends : (m : Marks) (xs : List Known) (os : List Around) → EndsText m xs → EndsText m (xs ++ behind_all os)
ahead-ends m xs os h v e = elim (first-either xs (behind_all os) (Piece v m) e) [
  | inl l ↦ h v l
  | inr r ↦ behind-ends m os v r
]

take-ends : (m : Marks) (n : ℕ) (xs : List Known) → EndsText m xs → EndsText m (take n xs)
take-ends m zero xs h v e = absurd (cc)
take-ends m (suc n) [] h v e = absurd (cc)
take-ends m (suc n) (x ∷ xs) h v e = h v e

text-length : (m : Marks) (us : List ℕ) → length (text_tokens m us) ≡ length us
text-length m [] = refl
text-length m (u ∷ us) = ap suc (text-length m us)

pieces-length : (m : Marks) (us : List ℕ) → length (pieces m us) ≡ length us
pieces-length m [] = refl
pieces-length m (u ∷ us) = ap suc (pieces-length m us)

-- ---- what is ahead at a child

module _ (ts : List Token) (at rest end : ℕ) (n : Node) (k : IsNext ts at rest end n) (os : List Around) where
  ahead-child : ahead ts at os ≡ drop rest (known [] (node_tokens n)) ++ ahead ts end os
  ahead-child = ap (λ z. z ++ behind_all os) k.tokens ∙ append_assoc (drop rest (known [] (node_tokens n))) (drop end (known [] ts)) (behind_all os)

  pub ahead-text : (us : List ℕ) (left : ℕ) → n.body ≡ Text us
      → take left (ahead ts at os) ≡ pieces n.marks (take left (drop rest us)) ++ take (left - length (drop rest us)) (ahead ts end os)
  ahead-text us left b =
      let own : drop rest (known [] (node_tokens n)) ≡ pieces n.marks (drop rest us) =
      ap (λ z. drop rest (known [] z)) (node_tokens_at n (Text us) b) ∙ (ap (drop rest) (known-text [] n.marks us) ∙ pieces-drop rest n.marks us) in
      ap (take left) (ahead-child ∙ ap (λ z. z ++ ahead ts end os) own)
      ∙ (take_over left (pieces n.marks (drop rest us)) (ahead ts end os)
      ∙ (ap (λ z. z ++ take (left - length (pieces n.marks (drop rest us))) (ahead ts end os)) (pieces-take left n.marks (drop rest us))
      ∙ ap (λ z. pieces n.marks (take left (drop rest us)) ++ take (left - z) (ahead ts end os)) (pieces-length n.marks (drop rest us))))

  pub ahead-leaf : n.body ≡ Childless → ahead ts at os ≡ Single (head_of n) ∷ ahead ts end os
  ahead-leaf b =
      let whole : node_tokens n ≡ _ = node_tokens_at n Childless b in
      let none : rest ≡ 0 = omega (arith, k.inside, ap length whole) in
      ahead-child ∙ (ap (λ r. drop r (known [] (node_tokens n)) ++ ahead ts end os) none ∙ ap (λ z. known [] z ++ ahead ts end os) whole)

  -- with the node around what it holds
  ahead-inner : (inner : List Token) (r : ℕ) (a : Around) → a.node.now ≡ n → a.content.now ≡ ts → a.at ≡ end
      → drop r (known [] inner) ++ (Closing (head_of n) ∷ ahead ts end os) ≡ ahead inner r (os ++ (a ∷ []))
  ahead-inner inner r a node content place =
      let one : behind_one a ≡ Closing (head_of n) ∷ drop end (known [] ts) =
      ap (λ z. Closing (head_of z) ∷ drop a.at (known [] a.content.now)) node ∙ (ap (λ z. Closing (head_of n) ∷ drop a.at (known [] z)) content ∙ ap (λ z. Closing (head_of n) ∷ drop z (known [] ts)) place) in
      sym (ap (λ z. drop r (known [] inner) ++ z) (behind-push os a ∙ ap (λ z. z ++ behind_all os) one))

  ahead-node : (inner : List Token) → n.body ≡ Children inner → ahead ts at os ≡ drop rest (Opening (head_of n) ∷ (known [] inner ++ (Closing (head_of n) ∷ []))) ++ ahead ts end os
  ahead-node inner b =
      let h = head_of n in
      ahead-child
      ∙ (ap (λ z. drop rest (known [] z) ++ ahead ts end os) (node_tokens_at n (Children inner) b)
      ∙ ap (λ z. drop rest (Opening h ∷ z) ++ ahead ts end os) (known-balanced (subst WholeBody b k.body) (h ∷ []) (Close ∷ [])))

  pub ahead-open : (inner : List Token) (a : Around) → n.body ≡ Children inner → depth_at ts at ≡ 0 → a.node.now ≡ n → a.content.now ≡ ts → a.at ≡ end
      → ahead ts at os ≡ Opening (head_of n) ∷ ahead inner 0 (os ++ (a ∷ []))
  ahead-open inner a b f node content place =
      let h = head_of n in
      ahead-node inner b
      ∙ (ap (λ r. drop r (Opening h ∷ (known [] inner ++ (Closing h ∷ []))) ++ ahead ts end os) (flat-in-child ts at rest end n inner k b f)
      ∙ ap (λ z. Opening h ∷ z) (append_assoc (known [] inner) (Closing h ∷ []) (ahead ts end os) ∙ ahead-inner inner 0 a node content place))

  -- inside of a child, after its open
  pub ahead-within : (inner : List Token) (r : ℕ) (a : Around) → n.body ≡ Children inner → rest ≡ suc r → a.node.now ≡ n → a.content.now ≡ ts → a.at ≡ end
      → ahead ts at os ≡ ahead inner r (os ++ (a ∷ []))
  ahead-within inner r a b e node content place =
      let h = head_of n in
      let ks = known [] inner in
      let le : r ≤ length ks = omega (arith, e, k.inside, ap length (node_tokens_at n (Children inner) b), length-append inner (Close ∷ []), length-known [] inner) in
      ahead-node inner b
      ∙ (ap (λ z. drop z (Opening h ∷ (ks ++ (Closing h ∷ []))) ++ ahead ts end os) e
      ∙ (ap (λ z. z ++ ahead ts end os) (drop-within ks (Closing h ∷ []) r le)
      ∙ (append_assoc (drop r ks) (Closing h ∷ []) (ahead ts end os) ∙ ahead-inner inner r a node content place)))

  -- in the child there are no more nodes around than before it
  pub within-fits : (inner : List Token) (r room left : ℕ) (a : Around) → n.body ≡ Children inner → rest ≡ suc r → a.node.now ≡ n → a.content.now ≡ ts → a.at ≡ end
      → deepest (length os + depth_at ts at) (tokens_of (take left (ahead ts at os))) ≤ room
      → deepest (length (os ++ (a ∷ [])) + depth_at inner r) (tokens_of (take left (ahead inner r (os ++ (a ∷ []))))) ≤ room
  within-fits inner r room left a b e node content place f =
      let q : rest - 1 ≡ r = omega (arith, e) in
      let d : length os + depth_at ts at ≡ length (os ++ (a ∷ [])) + depth_at inner r = omega (arith, depth-in-child ts at rest end n inner k b (omega (arith, e)), ap (depth_at inner) q, length-append os (a ∷ [])) in
      subst (λ z. deepest (length (os ++ (a ∷ [])) + depth_at inner r) (tokens_of (take left z)) ≤ room) (ahead-within inner r a b e node content place)
      (subst (λ z. deepest z (tokens_of (take left (ahead ts at os))) ≤ room) d f)

  -- ---- the run that is given

  module _ (us : List ℕ) (b : n.body ≡ Text us) (left count : ℕ) (s : count ≡ min (length us - rest) left) where
    size-text : length (node_tokens n) ≡ length us
    size-text = ap length (node_tokens_at n (Text us) b) ∙ text-length n.marks us

    fewer : left - length (drop rest us) ≡ left - count
    fewer = omega (arith, s, length-drop rest us)

    run-is : (run : List ℕ) → run ≡ part rest (rest + count) us → run ≡ take left (drop rest us)
    run-is run r =
        let e : rest + count - rest ≡ min left (length (drop rest us)) = omega (arith, s, length-drop rest us) in
        r ∙ (ap (λ z. take z (drop rest us)) e ∙ take_min left (drop rest us))

    text-ahead : (run : List ℕ) → run ≡ part rest (rest + count) us → take left (ahead ts at os) ≡ pieces n.marks run ++ take (left - count) (ahead ts end os)
    text-ahead run r = ahead-text us left b ∙ (ap (λ z. pieces n.marks z ++ take (left - length (drop rest us)) (ahead ts end os)) (sym (run-is run r)) ∙ ap (λ z. pieces n.marks run ++ take z (ahead ts end os)) fewer)

    pub text-taken : (run : List ℕ) → run ≡ part rest (rest + count) us → 0 < left → grouped (take left (ahead ts at os)) ≡ Run run n.marks ∷ grouped (take (left - count) (ahead ts end os))
    text-taken run r some =
        let is : IsText n.body = subst IsText (sym b) tt in
        let long : 0 < length run = omega (arith, ap length (run-is run r), length-take left (drop rest us), length-drop rest us, k.inside, size-text, some) in
        let ends : EndsText n.marks (take (left - count) (ahead ts end os)) = take-ends n.marks (left - count) (ahead ts end os) (ahead-ends n.marks (drop end (known [] ts)) os (k.text is)) in
        ap grouped (text-ahead run r) ∙ grouped-run n.marks run (take (left - count) (ahead ts end os)) long ends

    pub text-fits : (room : ℕ) → FitIn room left ts at os → FitIn room (left - count) ts end os
    text-fits room f =
        let run = part rest (rest + count) us in
        let e : deepest (length os) (tokens_of (take left (ahead ts at os))) ≡ deepest (length os) (tokens_of (take (left - count) (ahead ts end os))) =
        ap (λ z. deepest (length os) (tokens_of z)) (text-ahead run refl) ∙ deepest-pieces (length os) n.marks run (take (left - count) (ahead ts end os)) in
        omega (arith, f, e)

    pub text-long : rest < length us
    text-long = omega (arith, k.inside, size-text)

-- ---- one token is given

pub one-taken : (t : Known) (old new : List Known) (left : ℕ) → 0 < left → old ≡ t ∷ new → take left old ≡ t ∷ take (left - 1) new
one-taken t old new zero h e = absurd (omega (arith, h))
one-taken t old new (suc l) h e = ap (take (suc l)) e ∙ ap (λ z. t ∷ take z new) (let f : l ≡ suc l - 1 = omega arith in f)

-- at the end of a content
pub ahead-close : (ts : List Token) (at : ℕ) (os : List Around) (a : Around) → length ts ≤ at → ahead ts at (os ++ (a ∷ [])) ≡ Closing (head_of a.node.now) ∷ ahead a.content.now a.at os
ahead-close ts at os a h = ap (λ z. z ++ behind_all (os ++ (a ∷ []))) (drop_all at (known [] ts) (omega (arith, h, length-known [] ts))) ∙ behind-push os a

pub ahead-none : (ts : List Token) (at : ℕ) → length ts ≤ at → ahead ts at [] ≡ []
ahead-none ts at h = ap (λ z. z ++ []) (drop_all at (known [] ts) (omega (arith, h, length-known [] ts)))

pub none-left : (left : ℕ) (ts : List Token) (at : ℕ) (os : List Around) → length ts ≤ at → os ≡ [] → grouped (take left (ahead ts at os)) ≡ []
none-left left ts at os h e = ap (λ z. grouped (take left (ahead ts at z))) e ∙ (ap (λ z. grouped (take left z)) (ahead-none ts at h) ∙ ap grouped (take-nil left))

-- ---- where no node is around yet

pub start-is : (ts : List Token) (from to : ℕ) (os : List Around) → os ≡ [] → take (to - from) (ahead ts from os) ≡ viewed ts from to
start-is ts from to os e = ap (λ z. take (to - from) (ahead ts from z)) e ∙ ap (take (to - from)) (append-nil (drop from (known [] ts)))

pub start-fits : (ts : List Token) (from to most : ℕ) (os : List Around) → os ≡ [] → deepest (depth_at ts from) (part from to ts) ≤ most → deepest (length os + depth_at ts from) (tokens_of (take (to - from) (ahead ts from os))) ≤ most
start-fits ts from to most os e f =
    let n : length os + depth_at ts from ≡ depth_at ts from = omega (arith, ap length e) in
    subst (λ d. deepest d (tokens_of (take (to - from) (ahead ts from os))) ≤ most) (sym n)
    (subst (λ z. deepest (depth_at ts from) z ≤ most) (sym (ap tokens_of (start-is ts from to os e) ∙ tokens-viewed ts from to)) f)

start-parts : (ts : List Token) (from to : ℕ) (os : List Around) (shown : List Known) (ps : List Seen) → os ≡ [] → viewed ts from to ≡ shown → ps ≡ grouped (take (to - from) (ahead ts from os)) → ArePartsOf shown ps
start-parts ts from to os shown ps e v is = subst (ArePartsOf shown) (sym (is ∙ ap grouped (start-is ts from to os e ∙ v))) (grouped-are shown)

pub start-made : {E : Type 0} (ts : List Token) (from to : ℕ) (os : List Around) (shown : List Known) (r : Result (List Seen) E) → os ≡ [] → viewed ts from to ≡ shown
    → IfOk r (λ t. t ≡ grouped (take (to - from) (ahead ts from os))) → IfOk r (ArePartsOf shown)
start-made ts from to os shown r e v h = IfOk-weaker r (λ t. t ≡ grouped (take (to - from) (ahead ts from os))) (ArePartsOf shown) (λ t is. start-parts ts from to os shown t e v is) h

-- ---- how many nodes are around

pub flat-fits : (room left : ℕ) (ts : List Token) (at : ℕ) (os : List Around) → depth_at ts at ≡ 0 → deepest (length os + depth_at ts at) (tokens_of (take left (ahead ts at os))) ≤ room → FitIn room left ts at os
flat-fits room left ts at os z f =
    let e : length os + depth_at ts at ≡ length os = omega (arith, z) in
    subst (λ d. deepest d (tokens_of (take left (ahead ts at os))) ≤ room) e f

fits-one : (room d e left : ℕ) (t : Known) (old new : List Known) → 0 < left → old ≡ t ∷ new → deepest d (tokens_of (take left old)) ≤ room
    → deepest e (tokens_of (take (left - 1) new)) ≤ deepest d (tokens_of (t ∷ take (left - 1) new)) → deepest e (tokens_of (take (left - 1) new)) ≤ room
fits-one room d e left t old new h is f le = omega (arith, le, f, ap (λ z. deepest d (tokens_of z)) (one-taken t old new left h is))

pub leaf-fits : (room left : ℕ) (ts us : List Token) (at end : ℕ) (os : List Around) (h : Head) → 0 < left → ahead ts at os ≡ Single h ∷ ahead us end os → FitIn room left ts at os → FitIn room (left - 1) us end os
leaf-fits room left ts us at end os h some is f = fits-one room (length os) (length os) left (Single h) (ahead ts at os) (ahead us end os) some is f (omega arith)

push-length : (os : List Around) (a : Around) → length (os ++ (a ∷ [])) ≡ suc (length os)
push-length os a = omega (arith, length-append os (a ∷ []))

pub open-fits : (room left : ℕ) (ts us : List Token) (at end : ℕ) (os : List Around) (a : Around) (h : Head) → 0 < left → ahead ts at os ≡ Opening h ∷ ahead us end (os ++ (a ∷ [])) → FitIn room left ts at os → FitIn room (left - 1) us end (os ++ (a ∷ []))
open-fits room left ts us at end os a h some is f =
    let new = ahead us end (os ++ (a ∷ [])) in
    subst (λ z. deepest z (tokens_of (take (left - 1) new)) ≤ room) (sym (push-length os a))
    (fits-one room (length os) (suc (length os)) left (Opening h) (ahead ts at os) new some is f (omega arith))

-- there is room for a node that opens
pub open-room : (room left : ℕ) (ts us : List Token) (at end : ℕ) (os : List Around) (a : Around) (h : Head) → 0 < left → ahead ts at os ≡ Opening h ∷ ahead us end (os ++ (a ∷ [])) → FitIn room left ts at os → length os < room
open-room room left ts us at end os a h some is f =
    let g = open-fits room left ts us at end os a h some is f in
    let n = deepest-least (length (os ++ (a ∷ []))) (tokens_of (take (left - 1) (ahead us end (os ++ (a ∷ []))))) in
    omega (arith, g, n, push-length os a)

pub close-fits : (room left : ℕ) (ts us : List Token) (at end : ℕ) (os : List Around) (a : Around) (h : Head) → 0 < left → ahead ts at (os ++ (a ∷ [])) ≡ Closing h ∷ ahead us end os → FitIn room left ts at (os ++ (a ∷ [])) → FitIn room (left - 1) us end os
close-fits room left ts us at end os a h some is f =
    let old = ahead ts at (os ++ (a ∷ [])) in
    fits-one room (suc (length os)) (length os) left (Closing h) old (ahead us end os) some is
    (subst (λ z. deepest z (tokens_of (take left old)) ≤ room) (push-length os a) f)
    (omega arith)
