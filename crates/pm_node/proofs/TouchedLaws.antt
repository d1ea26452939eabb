-- Only what a change touches can get a fault: the children before and after it stay as they were.
use Rattle.std.specs.Prelude.{◌≡◌, ℕ, ◌+◌, ◌-◌, ◌≤◌, ◌<◌, true, Option, Some, None, List, [], ◌∷◌, ◌++◌, length, take, drop}
use Rattle.std.proofs.Common.{zero, suc, refl, ap, sym, ◌∙◌, subst, arith, append_assoc, length-append}
use Rattle.std.proofs.lemmas.List.{take-append-drop, drop-append-le}
use Rattle.std.proofs.Math.Seq.{take-append-add}
use Rattle.std.specs.declared.sync.Arc.{Arc}
use Rattle.std.specs.Arc.{arc_value}
use Rattle.pm_tokens.specs.Tokens.{Marks, Token}
use Rattle.pm_tokens.specs.Schemas.{Schema}
use Rattle.pm_tokens.specs.Scan.{Balanced, part}
use Rattle.pm_tokens.specs.Kids.{kids}
use Rattle.pm_tokens.specs.Faults.{first_fault, first_broken}
use Rattle.pm_tokens.proofs.FaultLaws.{fault-append, unit_of, last_unit, PartsTexts, broken-append}
use Rattle.pm_tokens.proofs.ListLaws.{drop-nil}
use Rattle.pm_tokens.proofs.BalanceLaws.{balanced-append}
use Rattle.pm_tokens.proofs.ValidLaws.{some-none, none-some}
use Rattle.pm_node.specs.declared.node.Node.{Node}
use Rattle.pm_node.specs.declared.touched.Touched.{Touched}
use Rattle.pm_node.specs.Trees.{node_tokens, list_tokens, IsNormal, EachWhole}
use Rattle.pm_node.specs.Kinds.{kinds}
use Rattle.pm_node.specs.Changes.{Holds, Changed}
use Rattle.pm_node.specs.Touching.{Sound, IsTouched, types_with}
use Rattle.pm_node.proofs.TreeLaws.{list_tokens-append}
use Rattle.pm_node.proofs.WalkLaws.{normal-rest, each-rest}
use Rattle.pm_node.proofs.RunLaws.{normal-front}
use Rattle.pm_node.proofs.DeepLaws.{deep-append}
use Rattle.pm_node.proofs.KindLaws.{ends-apart, kids-list}
use Rattle.pm_node.proofs.AutoWalk.{kinds-append}
use Rattle.pm_node.proofs.PairWalk.{parts-body}
use Rattle.pm_node.proofs.ChangeLaws.{fault-moved, broken-moved, same-parts, whole-list, each-take, each-drop}

-- ---- neighbours without a fault

module _ (s : Schema) (kind levels : ℕ) {xs ys : List Token} (bx : Balanced xs) (by : Balanced ys) (apart : PartsTexts (last_unit None xs) ys) where
  -- both together have none
  pub sound-append : Sound s kind levels xs → Sound s kind levels ys → Sound s kind levels (xs ++ ys)
  sound-append f g =
      record {
        faultless = λ at ps. fault-append s at (kind ∷ ps) bx ys ∙ none-some (first_fault s at (kind ∷ ps) xs) (first_fault s (at + length xs) (kind ∷ ps) ys) (f.faultless at ps) (g.faultless (at + length xs) ps);
        unbroken = λ at. broken-append at xs ys apart ∙ none-some (first_broken at None xs) (first_broken (at + length xs) None ys) (f.unbroken at) (g.unbroken (at + length xs));
        shallow = omega (arith, f.shallow, g.shallow, deep-append 0 bx ys);
      }

  -- and each of them, where both have none
  pub sound-front : Sound s kind levels (xs ++ ys) → Sound s kind levels xs
  sound-front h =
      record {
        faultless = λ at ps. (some-none (first_fault s at (kind ∷ ps) xs) (first_fault s (at + length xs) (kind ∷ ps) ys) (sym (fault-append s at (kind ∷ ps) bx ys) ∙ h.faultless at ps)).0;
        unbroken = λ at. (some-none (first_broken at None xs) (first_broken (at + length xs) None ys) (sym (broken-append at xs ys apart) ∙ h.unbroken at)).0;
        shallow = omega (arith, h.shallow, deep-append 0 bx ys);
      }

  pub sound-back : Sound s kind levels (xs ++ ys) → Sound s kind levels ys
  sound-back h =
      let f = some-none (first_fault s 0 (kind ∷ []) xs) (first_fault s (0 + length xs) (kind ∷ []) ys) (sym (fault-append s 0 (kind ∷ []) bx ys) ∙ h.faultless 0 []) in
      let b = some-none (first_broken 0 None xs) (first_broken (0 + length xs) None ys) (sym (broken-append 0 xs ys apart) ∙ h.unbroken 0) in
      record {
        faultless = λ at ps. fault-moved s by kind (0 + length xs) at [] ps f.1;
        unbroken = λ at. broken-moved (0 + length xs) at None ys b.1;
        shallow = omega (arith, h.shallow, deep-append 0 bx ys);
      }

-- ---- where lists of nodes are parted

last-more : (r : Option Marks) (xs : List Token) (t : Token) (ts : List Token) → last_unit r (xs ++ (t ∷ ts)) ≡ last_unit None (t ∷ ts)
last-more r [] t ts = refl
last-more r (x ∷ xs) t ts = last-more (unit_of x) xs t ts

last-behind : (xs ys : List Token) → 0 < length ys → last_unit None (xs ++ ys) ≡ last_unit None ys
last-behind xs [] l = absurd (omega (arith, l))
last-behind xs (t ∷ ts) l = last-more None xs t ts

-- no text goes on from a child of a list in normal form into the next one
pub parts-list : {Z : Type 0} (xs : List (Arc Node Z)) (i : ℕ) → IsNormal xs → PartsTexts (last_unit None (list_tokens (take i xs))) (list_tokens (drop i xs))
parts-list xs zero n = tt
parts-list [] (suc i) n = tt
parts-list (x ∷ xs) (suc zero) n =
    let v = arc_value x in
    let here : last_unit None (node_tokens v) ≡ last_unit None (node_tokens v ++ []) = ap (last_unit None) (sym (append_nothing (node_tokens v))) in
    subst (λ r. PartsTexts r (list_tokens xs)) here (parts-body v.kind v.attrs v.marks v.body (list_tokens xs) n.0 (λ t. ends-apart v xs t n.1 n.2))
  where
    append_nothing : (ts : List Token) → ts ++ [] ≡ ts
    append_nothing [] = refl
    append_nothing (t ∷ ts) = ap (λ z. t ∷ z) (append_nothing ts)
parts-list (x ∷ []) (suc (suc i)) n = by (last_unit None (node_tokens (arc_value x) ++ []))
  where
    by : (r : Option Marks) → PartsTexts r []
    by None = tt
    by (Some m) = tt
parts-list (x ∷ (y ∷ ys)) (suc (suc i)) n =
    let rest = list_tokens (take (suc i) (y ∷ ys)) in
    let some : 0 < length rest = omega (arith, n.2.0, length-append (node_tokens (arc_value y)) (list_tokens (take i ys))) in
    subst (λ r. PartsTexts r (list_tokens (drop (suc i) (y ∷ ys)))) (sym (last-behind (node_tokens (arc_value x)) rest some)) (parts-list (y ∷ ys) (suc i) n.2)

pub list-parts : {Z : Type 0} (xs : List (Arc Node Z)) (i : ℕ) → list_tokens xs ≡ list_tokens (take i xs) ++ list_tokens (drop i xs)
list-parts xs i = ap list_tokens (sym (take-append-drop i xs)) ∙ list_tokens-append (take i xs) (drop i xs)

-- how many tokens stand before child i and from it on
pub list-lengths : {Z : Type 0} (xs : List (Arc Node Z)) (i : ℕ) → length (list_tokens xs) ≡ length (list_tokens (take i xs)) + length (list_tokens (drop i xs))
list-lengths xs i = ap length (list-parts xs i) ∙ length-append (list_tokens (take i xs)) (list_tokens (drop i xs))

drop-drop : {A : Type 0} (i n : ℕ) (xs : List A) → drop n (drop i xs) ≡ drop (i + n) xs
drop-drop zero n xs = ap (λ k. drop k xs) (let e : n ≡ 0 + n = omega arith in e)
drop-drop (suc i) n [] = drop-nil n ∙ sym (drop-nil (suc i + n))
drop-drop (suc i) n (x ∷ xs) = drop-drop i n xs ∙ ap (λ k. drop k (x ∷ xs)) (let e : suc (i + n) ≡ suc i + n = omega arith in e)

module _ {Z : Type 0} (xs : List (Arc Node Z)) (i j : ℕ) (order : i ≤ j) where
  behind-is : drop (j - i) (drop i xs) ≡ drop j xs
  behind-is = drop-drop i (j - i) xs ∙ ap (λ k. drop k xs) (let e : i + (j - i) ≡ j = omega (arith, order) in e)

  -- the tokens from child i on: those of the children i..j, and those after
  pub rest-parts : list_tokens (drop i xs) ≡ list_tokens (part i j xs) ++ list_tokens (drop j xs)
  rest-parts = list-parts (drop i xs) (j - i) ∙ ap (λ z. list_tokens (part i j xs) ++ list_tokens z) behind-is

  pub parts-part : IsNormal xs → PartsTexts (last_unit None (list_tokens (part i j xs))) (list_tokens (drop j xs))
  parts-part n = subst (λ z. PartsTexts (last_unit None (list_tokens (part i j xs))) (list_tokens z)) behind-is (parts-list (drop i xs) (j - i) (normal-rest xs i n))

-- some of the children have no more tokens than all
pub part-within : {Z : Type 0} (xs : List (Arc Node Z)) (i j : ℕ) → i ≤ j → length (list_tokens (part i j xs)) ≤ length (list_tokens xs)
part-within xs i j order =
    omega (arith, list-lengths xs i, ap length (rest-parts xs i j order), length-append (list_tokens (part i j xs)) (list_tokens (drop j xs)))

-- the types of the children before i, of i..j, and of those after
pub kinds-parts : {Z : Type 0} (text : ℕ) (xs : List (Arc Node Z)) (i j : ℕ) → i ≤ j → kinds text xs ≡ kinds text (take i xs) ++ (kinds text (part i j xs) ++ kinds text (drop j xs))
kinds-parts text xs i j order =
    ap (kinds text) (sym (take-append-drop i xs))
    ∙ (kinds-append text (take i xs) (drop i xs)
    ∙ ap (λ z. kinds text (take i xs) ++ z)
    (ap (kinds text) (sym (take-append-drop (j - i) (drop i xs)))
    ∙ (kinds-append text (part i j xs) (drop (j - i) (drop i xs)) ∙ ap (λ z. kinds text (part i j xs) ++ kinds text z) (behind-is xs i j order))))

-- ---- what stays as it was

-- the same tokens stand before a change, and after it
pub same-front : (a u a' u' put back : List Token) (from : ℕ) → length a ≡ length a' → length a ≤ from → a' ++ u' ≡ take from (a ++ u) ++ (put ++ back) → a ≡ a'
same-front a u a' u' put back from l before is =
    let k = from - length a in
    let e : from ≡ length a + k = omega (arith, before) in
    let front : take from (a ++ u) ≡ a ++ take k u = ap (λ n. take n (a ++ u)) e ∙ take-append-add a u k in
    let whole : a' ++ u' ≡ a ++ (take k u ++ (put ++ back)) = is ∙ (ap (λ z. z ++ (put ++ back)) front ∙ append_assoc a (take k u) (put ++ back)) in
    sym (same-parts a' a u' (take k u ++ (put ++ back)) (sym l) whole).0

pub same-back : (u b u' b' front put : List Token) (to : ℕ) → length b ≡ length b' → to ≤ length u → u' ++ b' ≡ front ++ (put ++ drop to (u ++ b)) → b ≡ b'
same-back u b u' b' front put to l behind is =
    let made = front ++ (put ++ drop to u) in
    let whole : u' ++ b' ≡ made ++ b =
    is
    ∙ (ap (λ z. front ++ (put ++ z)) (drop-append-le to u b behind)
    ∙ (ap (λ z. front ++ z) (sym (append_assoc put (drop to u) b)) ∙ sym (append_assoc front (put ++ drop to u) b))) in
    let counts : length u' ≡ length made = omega (arith, l, ap length whole, length-append u' b', length-append made b) in
    sym (same-parts u' made b' b counts whole).1

-- ---- a change of some children

module _ {Z : Type 0} (s : Schema) (kind levels : ℕ) (xs ys : List (Arc Node Z)) (nx : IsNormal xs) (ny : IsNormal ys) (wx : EachWhole xs) (wy : EachWhole ys)
    (from to new_to : ℕ) (t : Touched) (touched : IsTouched xs ys t from to) (c : Changed (list_tokens xs) (list_tokens ys) from to new_to) where
  abbrev ahead : List Token
  ahead = list_tokens (take t.from xs)

  abbrev behind : List Token
  behind = list_tokens (drop t.to xs)

  front-same : ahead ≡ list_tokens (take t.new_from ys)
  front-same =
      same-front ahead (list_tokens (drop t.from xs)) (list_tokens (take t.new_from ys)) (list_tokens (drop t.new_from ys)) c.put_in (drop to (list_tokens xs)) from touched.front.same touched.front.before
      (sym (list-parts ys t.new_from) ∙ (c.is ∙ ap (λ z. take from z ++ (c.put_in ++ drop to (list_tokens xs))) (list-parts xs t.from)))

  back-same : behind ≡ list_tokens (drop t.new_to ys)
  back-same =
      same-back (list_tokens (take t.to xs)) behind (list_tokens (take t.new_to ys)) (list_tokens (drop t.new_to ys)) (take from (list_tokens xs)) c.put_in to touched.back.same touched.back.behind
      (sym (list-parts ys t.new_to) ∙ (c.is ∙ ap (λ z. take from (list_tokens xs) ++ (c.put_in ++ drop to z)) (list-parts xs t.to)))

  kinds-front : kinds s.text (take t.new_from ys) ≡ kinds s.text (take t.from xs)
  kinds-front =
      sym (kids-list s.text (take t.new_from ys) (normal-front t.new_from ys ny) (each-take t.new_from ys wy))
      ∙ (ap (kids s.text 0 None) (sym front-same) ∙ kids-list s.text (take t.from xs) (normal-front t.from xs nx) (each-take t.from xs wx))

  kinds-back : kinds s.text (drop t.new_to ys) ≡ kinds s.text (drop t.to xs)
  kinds-back =
      sym (kids-list s.text (drop t.new_to ys) (normal-rest ys t.new_to ny) (each-rest ys t.new_to wy))
      ∙ (ap (kids s.text 0 None) (sym back-same) ∙ kids-list s.text (drop t.to xs) (normal-rest xs t.to nx) (each-rest xs t.to wx))

  -- the types of the new list
  types-are : kids s.text 0 None (list_tokens ys) ≡ types_with s.text xs ys t
  types-are =
      kids-list s.text ys ny wy
      ∙ (kinds-parts s.text ys t.new_from t.new_to touched.new_order
      ∙ (ap (λ z. z ++ (kinds s.text (part t.new_from t.new_to ys) ++ kinds s.text (drop t.new_to ys))) kinds-front
      ∙ ap (λ z. kinds s.text (take t.from xs) ++ (kinds s.text (part t.new_from t.new_to ys) ++ z)) kinds-back))

  new-accepted : Holds s kind levels (list_tokens xs) → (s.accepts kind (kinds s.text xs) ≡ true → s.accepts kind (types_with s.text xs ys t) ≡ true) → s.accepts kind (kids s.text 0 None (list_tokens ys)) ≡ true
  new-accepted h types = ap (s.accepts kind) types-are ∙ types (ap (s.accepts kind) (sym (kids-list s.text xs nx wx)) ∙ h.accepted)

  -- content that had no fault has none where the children that stand in place of the touched ones have none, and the automaton
  -- accepts the types of all
  pub touched-holds : Holds s kind levels (list_tokens xs) → Sound s kind levels (list_tokens (part t.new_from t.new_to ys))
      → (s.accepts kind (kinds s.text xs) ≡ true → s.accepts kind (types_with s.text xs ys t) ≡ true) → Holds s kind levels (list_tokens ys)
  touched-holds h g types =
      let rest = list_tokens (drop t.from xs) in
      let middle = list_tokens (part t.from t.to xs) in
      let made = list_tokens (part t.new_from t.new_to ys) in
      let ba : Balanced ahead = whole-list (take t.from xs) (each-take t.from xs wx) in
      let br : Balanced rest = whole-list (drop t.from xs) (each-drop t.from xs wx) in
      let bb : Balanced behind = whole-list (drop t.to xs) (each-drop t.to xs wx) in
      let bm : Balanced middle = whole-list (part t.from t.to xs) (each-take (t.to - t.from) (drop t.from xs) (each-drop t.from xs wx)) in
      let bn : Balanced made = whole-list (part t.new_from t.new_to ys) (each-take (t.new_to - t.new_from) (drop t.new_from ys) (each-drop t.new_from ys wy)) in
      let all : Sound s kind levels (list_tokens xs) = record { faultless = h.faultless; unbroken = h.unbroken; shallow = h.shallow } in
      let old : Sound s kind levels (ahead ++ rest) = subst (Sound s kind levels) (list-parts xs t.from) all in
      let fa = sound-front s kind levels ba br (parts-list xs t.from nx) old in
      let fr = sound-back s kind levels ba br (parts-list xs t.from nx) old in
      let split : Sound s kind levels (middle ++ behind) = subst (Sound s kind levels) (rest-parts xs t.from t.to touched.order) fr in
      let fb = sound-back s kind levels bm bb (parts-part xs t.from t.to touched.order nx) split in
      let apart = subst (λ z. PartsTexts (last_unit None made) z) (sym back-same) (parts-part ys t.new_from t.new_to touched.new_order ny) in
      let fn : Sound s kind levels (made ++ behind) = sound-append s kind levels bn bb apart g fb in
      let new_rest : list_tokens (drop t.new_from ys) ≡ made ++ behind = rest-parts ys t.new_from t.new_to touched.new_order ∙ ap (λ z. made ++ z) (sym back-same) in
      let first : PartsTexts (last_unit None ahead) (made ++ behind) = subst (λ z. PartsTexts (last_unit None ahead) z) new_rest (subst (λ z. PartsTexts (last_unit None z) (list_tokens (drop t.new_from ys))) (sym front-same) (parts-list ys t.new_from ny)) in
      let new = sound-append s kind levels ba (balanced-append bn bb) first fa fn in
      let is : ahead ++ (made ++ behind) ≡ list_tokens ys = ap (λ z. z ++ (made ++ behind)) front-same ∙ (ap (λ z. list_tokens (take t.new_from ys) ++ z) (sym new_rest) ∙ sym (list-parts ys t.new_from)) in
      let done : Sound s kind levels (list_tokens ys) = subst (Sound s kind levels) is new in
      record { faultless = done.faultless; unbroken = done.unbroken; shallow = done.shallow; accepted = new-accepted h types }
