-- The marks at a place: what is beside a position among children, and the marks that go on.
use Rattle.std.specs.Prelude.{◌≡◌, ℕ, zero, suc, ◌+◌, ◌-◌, ◌≤◌, ◌<◌, Bool, true, false, not, ◌||◌, ◌&&◌, cond, nat_le, Option, Some, None, Result, IfOk, List, [], ◌∷◌, ◌++◌, length, drop, get_or}
use Rattle.std.specs.List.{filter, list_all}
use Rattle.std.specs.declared.sync.Arc.{Arc}
use Rattle.std.specs.Arc.{arc_value}
use Rattle.std.proofs.Common.{refl, ap, sym, ◌∙◌, subst, arith, append_assoc, length-append}
use Rattle.std.proofs.lemmas.Bool.{le-leb, lt-leb, eq-eqb, ne_eqb}
use Rattle.std.proofs.lemmas.List.{at_drop_more, drop_all}
use Rattle.pm_marks.specs.declared.mark.Mark.{Mark}
use Rattle.pm_marks.specs.Sets.{same_mark, has, removed}
use Rattle.pm_marks.proofs.Laws.{same-equal, same-itself}
use Rattle.pm_attrs.specs.Attrs.{same_attrs}
use Rattle.pm_attrs.specs.Lawful.{same_attrs-decides}
use Rattle.pm_tokens.specs.Tokens.{Attrs, Marks, Token}
use Rattle.pm_tokens.specs.Kids.{children}
use Rattle.pm_node.specs.declared.node.Node.{Node}
use Rattle.pm_node.specs.declared.node.Body.{Body}
use Rattle.pm_node.specs.declared.node.Body.TheVariants.{Text, Leaf as Childless, Children}
use Rattle.pm_node.specs.Trees.{node_tokens, body_tokens, list_tokens, IsNormal, EachWhole}
use Rattle.pm_node.specs.Among.{Stands}
use Rattle.pm_node.proofs.WalkLaws.{front}
use Rattle.pm_node.proofs.KindLaws.{child_tokens, children-list}
use Rattle.pm_resolve.specs.Places.{Beside, Within, Between, beside, first_marks, going_on, marks_beside}

-- a mark is kept where its type is inclusive, or the other neighbour has it
abbrev pub is_kept : (ℕ → Bool) → Marks → Mark Attrs → Bool
is_kept inclusive other m = inclusive m.kind || has same_attrs other m

pub if_ok-as : {E : Type 0} (r : Result Marks E) (x y : Marks) → x ≡ y → IfOk r (λ m. m ≡ x) → IfOk r (λ m. m ≡ y)
if_ok-as r x y e h = subst (λ v. IfOk r (λ m. m ≡ v)) e h

-- ---- what is beside a position among children

step-behind : (b : Option (List Token)) (c : List Token) (cs : List (List Token)) (p : ℕ) → 0 < length c → beside b (length c + p) (c ∷ cs) ≡ beside (Some c) p cs
step-behind b c cs p h =
    let q = length c + p in
    let e : q - length c ≡ p = omega arith in
    ap (λ t. cond t (Between b (Some c)) (cond (nat_le (length c) q) (beside (Some c) (q - length c) cs) (Within c))) (ne_eqb q 0 (λ z. omega (arith, z, h)))
    ∙ (ap (λ t. cond t (beside (Some c) (q - length c) cs) (Within c)) (le-leb (length c) q (omega arith)) ∙ ap (λ z. beside (Some c) z cs) e)

-- the last of the first i children, or what is before them
abbrev last_of : {Z : Type 0} → Option (List Token) → List (Arc Node Z) → ℕ → Option (List Token)
last_of b xs zero = b
last_of b [] (suc i) = b
last_of b (x ∷ xs) (suc i) = last_of (Some (node_tokens (arc_value x))) xs i

last-is : {Z : Type 0} (b : Option (List Token)) (xs : List (Arc Node Z)) (j : ℕ) (y : Arc Node Z) → j < length xs → y ≡ get_or xs j y → last_of b xs (suc j) ≡ Some (node_tokens (arc_value y))
last-is b [] j y h e = absurd (omega (arith, h))
last-is b (x ∷ xs) zero y h e = ap (λ v. Some (node_tokens (arc_value v))) (sym e)
last-is b (x ∷ xs) (suc j) y h e = last-is (Some (node_tokens (arc_value x))) xs j y (omega (arith, h)) e

behind : {Z : Type 0} (b : Option (List Token)) (xs : List (Arc Node Z)) (i p : ℕ) → IsNormal xs → i ≤ length xs → beside b (length (front xs i) + p) (child_tokens xs) ≡ beside (last_of b xs i) p (child_tokens (drop i xs))
behind b xs zero p n h = ap (λ z. beside b z (child_tokens xs)) (let e : 0 + p ≡ p = omega arith in e)
behind b [] (suc i) p n h = absurd (omega (arith, h))
behind b (x ∷ xs) (suc i) p n h =
    let t = node_tokens (arc_value x) in
    let e : length (t ++ front xs i) + p ≡ length t + (length (front xs i) + p) = omega (arith, length-append t (front xs i)) in
    ap (λ z. beside b z (t ∷ child_tokens xs)) e ∙ (step-behind b t (child_tokens xs) (length (front xs i) + p) n.0 ∙ behind (Some t) xs i p n.2 (omega (arith, h)))

within-first : (b : Option (List Token)) (c : List Token) (cs : List (List Token)) (p : ℕ) → 0 < p → p < length c → beside b p (c ∷ cs) ≡ Within c
within-first b c cs p h l =
    ap (λ t. cond t (Between b (Some c)) (cond (nat_le (length c) p) (beside (Some c) (p - length c) cs) (Within c))) (ne_eqb p 0 (λ z. omega (arith, z, h)))
    ∙ ap (λ t. cond t (beside (Some c) (p - length c) cs) (Within c)) (lt-leb (length c) p l)

before-first : (b : Option (List Token)) (c : List Token) (cs : List (List Token)) (p : ℕ) → p ≡ 0 → beside b p (c ∷ cs) ≡ Between b (Some c)
before-first b c cs p h = ap (λ t. cond t (Between b (Some c)) (cond (nat_le (length c) p) (beside (Some c) (p - length c) cs) (Within c))) (eq-eqb p 0 h)

body-marks : (k : ℕ) (a : Attrs) (m : Marks) (b : Body) → 0 < length (body_tokens k a m b) → first_marks (body_tokens k a m b) ≡ m
body-marks k a m (Text []) h = absurd (omega (arith, h))
body-marks k a m (Text (u ∷ us)) h = refl
body-marks k a m Childless h = refl
body-marks k a m (Children ts) h = refl

node-marks : (n : Node) → 0 < length (node_tokens n) → first_marks (node_tokens n) ≡ n.marks
node-marks n h = body-marks n.kind n.attrs n.marks n.body h

normal-full : {Z : Type 0} (xs : List (Arc Node Z)) (i : ℕ) (x : Arc Node Z) → IsNormal xs → i < length xs → x ≡ get_or xs i x → 0 < length (node_tokens (arc_value x))
normal-full [] i x n h e = absurd (omega (arith, h))
normal-full (y ∷ ys) zero x n h e = subst (λ v. 0 < length (node_tokens (arc_value v))) (sym e) n.0
normal-full (y ∷ ys) (suc i) x n h e = normal-full ys i x n.2 (omega (arith, h)) e

module _ {Z : Type 0} (inclusive : ℕ → Bool) (xs : List (Arc Node Z)) (pos i r : ℕ) (n : IsNormal xs) (w : EachWhole xs) (s : Stands xs pos i r) where
  marks-are : Beside → Type 0
  marks-are v = beside None pos (children (list_tokens xs)) ≡ v

  stood : beside None pos (children (list_tokens xs)) ≡ beside (last_of None xs i) r (child_tokens (drop i xs))
  stood = ap (beside None pos) (children-list xs n w) ∙ (ap (λ z. beside None z (child_tokens xs)) (sym s.offset) ∙ behind None xs i r n s.within)

  next-is : (x : Arc Node Z) → i < length xs → x ≡ get_or xs i x → child_tokens (drop i xs) ≡ node_tokens (arc_value x) ∷ child_tokens (drop (i + 1) xs)
  next-is x h e = at_drop_more child_tokens xs i x h ∙ ap (λ v. node_tokens (arc_value v) ∷ child_tokens (drop (i + 1) xs)) (sym e)

  none-next : i ≡ length xs → child_tokens (drop i xs) ≡ []
  none-next h = ap child_tokens (drop_all i xs (omega (arith, h)))

  -- inside a text, its marks
  pub marks-inside : (x : Arc Node Z) → i < length xs → x ≡ get_or xs i x → 0 < r → (arc_value x).marks ≡ marks_beside inclusive (beside None pos (children (list_tokens xs)))
  marks-inside x h e some =
      sym (ap (marks_beside inclusive) (stood ∙ (ap (beside (last_of None xs i) r) (next-is x h e) ∙ within-first (last_of None xs i) (node_tokens (arc_value x)) (child_tokens (drop (i + 1) xs)) r some (s.inside x h e)))
      ∙ node-marks (arc_value x) (normal-full xs i x n h e))

  -- where there is no child
  pub marks-none : length xs ≡ 0 → ◌≡◌ {A = Marks} [] (marks_beside inclusive (beside None pos (children (list_tokens xs))))
  marks-none z =
      let i0 : i ≡ 0 = let k = s.within in omega (arith, k, z) in
      sym (ap (marks_beside inclusive) (stood ∙ (ap (beside (last_of None xs i) r) (none-next (omega (arith, i0, z))) ∙ ap (λ j. Between (last_of None xs j) None) i0)))

  -- before the first child
  pub marks-first : (x : Arc Node Z) → r ≡ 0 → i ≡ 0 → 0 < length xs → x ≡ get_or xs 0 x → going_on inclusive [] (arc_value x).marks ≡ marks_beside inclusive (beside None pos (children (list_tokens xs)))
  marks-first x z i0 h e =
      let e' : x ≡ get_or xs i x = e ∙ ap (λ j. get_or xs j x) (sym i0) in
      let h' : i < length xs = omega (arith, i0, h) in
      sym (ap (marks_beside inclusive) (stood ∙ (ap (beside (last_of None xs i) r) (next-is x h' e') ∙ (before-first (last_of None xs i) (node_tokens (arc_value x)) (child_tokens (drop (i + 1) xs)) r z ∙ ap (λ j. Between (last_of None xs j) (Some (node_tokens (arc_value x)))) i0)))
      ∙ ap (going_on inclusive []) (node-marks (arc_value x) (normal-full xs i x n h' e')))

  module _ (y : Arc Node Z) (j : ℕ) (ij : i ≡ suc j) (e : y ≡ get_or xs j y) where
    has-y : j < length xs
    has-y = let k = s.within in omega (arith, k, ij)

    y-marks : first_marks (node_tokens (arc_value y)) ≡ (arc_value y).marks
    y-marks = node-marks (arc_value y) (normal-full xs j y n has-y e)

    y-last : last_of None xs i ≡ Some (node_tokens (arc_value y))
    y-last = ap (last_of None xs) ij ∙ last-is None xs j y has-y e

    -- after the last child
    pub marks-last : i ≡ length xs → going_on inclusive [] (arc_value y).marks ≡ marks_beside inclusive (beside None pos (children (list_tokens xs)))
    marks-last h =
        sym (ap (marks_beside inclusive) (stood ∙ (ap (beside (last_of None xs i) r) (none-next h) ∙ ap (λ o. Between o None) y-last)) ∙ ap (going_on inclusive []) y-marks)

    -- between two children
    pub marks-between : (x : Arc Node Z) → r ≡ 0 → i < length xs → x ≡ get_or xs i x → going_on inclusive (arc_value x).marks (arc_value y).marks ≡ marks_beside inclusive (beside None pos (children (list_tokens xs)))
    marks-between x z h q =
        let t = node_tokens (arc_value x) in
        sym (ap (marks_beside inclusive) (stood ∙ (ap (beside (last_of None xs i) r) (next-is x h q) ∙ (before-first (last_of None xs i) t (child_tokens (drop (i + 1) xs)) r z ∙ ap (λ o. Between o (Some t)) y-last)))
        ∙ (ap (λ v. going_on inclusive v (first_marks (node_tokens (arc_value y)))) (node-marks (arc_value x) (normal-full xs i x n h q)) ∙ ap (going_on inclusive (arc_value x).marks) y-marks))

-- ---- marks that go on

has-y-first : (p q : Marks) (m : Mark Attrs) → has same_attrs (p ++ (m ∷ q)) m ≡ true
has-y-first [] q m = rw (same-itself same_attrs same_attrs-decides m) refl
has-y-first (x ∷ p) q m = or-true (same_mark same_attrs x m) (has same_attrs (p ++ (m ∷ q)) m) (has-y-first p q m)
  where
    or-true : (a b : Bool) → b ≡ true → (a || b) ≡ true
    or-true true b h = refl
    or-true false b h = h

module _ (good : Mark Attrs → Bool) where
  -- the marks without those of a list that are not good
  abbrev pub swept : Marks → Marks → Marks
  swept [] zs = zs
  swept (y ∷ ys) zs = swept ys (cond (good y) zs (removed same_attrs zs y))

  or-both : (a b : Bool) → a ≡ true → (a || b) ≡ true
  or-both true b h = refl
  or-both false b h = absurd (cc)

  or-right : (a b : Bool) → b ≡ true → (a || b) ≡ true
  or-right true b h = refl
  or-right false b h = h

  and-two : (a b : Bool) → (a && b) ≡ true → (a ≡ true) × (b ≡ true)
  and-two true b h = (refl, h)
  and-two false b h = absurd (cc)

  and-make : (a b : Bool) → a ≡ true → b ≡ true → (a && b) ≡ true
  and-make true b h k = k
  and-make false b h k = absurd (cc)

  -- each of the marks is good, or is in the list
  abbrev are_known : Marks → Marks → Bool
  are_known ys zs = list_all (λ m. good m || has same_attrs ys m) zs

  known-itself : (p zs : Marks) → are_known (p ++ zs) zs ≡ true
  known-itself p [] = refl
  known-itself p (z ∷ zs) =
      and-make (good z || has same_attrs (p ++ (z ∷ zs)) z) (are_known (p ++ (z ∷ zs)) zs) (or-right (good z) (has same_attrs (p ++ (z ∷ zs)) z) (has-y-first p zs z))
      (ap (λ v. are_known v zs) (sym (append_assoc p (z ∷ []) zs)) ∙ known-itself (p ++ (z ∷ [])) zs)

  all-good : (zs : Marks) → are_known [] zs ≡ true → filter good zs ≡ zs
  all-good [] h = refl
  all-good (z ∷ zs) h =
      let b = and-two (good z || false) (are_known [] zs) h in
      let g : good z ≡ true = plain (good z) b.0 in
      ap (λ t. cond t (z ∷ filter good zs) (filter good zs)) g ∙ ap (λ v. z ∷ v) (all-good zs b.1)
    where
      plain : (a : Bool) → (a || false) ≡ true → a ≡ true
      plain true h = refl
      plain false h = absurd (cc)

  -- what is known of a mark m, where y is good or is not m
  known-less : (y : Mark Attrs) (ys : Marks) (m : Mark Attrs) → ((same_mark same_attrs y m ≡ true) → good m ≡ true) → (good m || (same_mark same_attrs y m || has same_attrs ys m)) ≡ true → (good m || has same_attrs ys m) ≡ true
  known-less y ys m f h = by (good m) (same_mark same_attrs y m) (has same_attrs ys m) f h
    where
      by : (a b c : Bool) → (b ≡ true → a ≡ true) → (a || (b || c)) ≡ true → (a || c) ≡ true
      by true b c f h = refl
      by false true c f h = let e : false ≡ true = f refl in absurd (cc)
      by false false c f h = h

  good-first : (y : Mark Attrs) (ys zs : Marks) → good y ≡ true → are_known (y ∷ ys) zs ≡ true → are_known ys zs ≡ true
  good-first y ys [] g h = refl
  good-first y ys (z ∷ zs) g h =
      let b = and-two (good z || has same_attrs (y ∷ ys) z) (are_known (y ∷ ys) zs) h in
      and-make (good z || has same_attrs ys z) (are_known ys zs) (known-less y ys z (λ e. ap good (sym (same-equal same_attrs same_attrs-decides y z e)) ∙ g) b.0) (good-first y ys zs g b.1)

  -- the marks without y, which is not good
  bad-step : (y z : Mark Attrs) (ys zs : Marks) → good y ≡ false → (good z || has same_attrs (y ∷ ys) z) ≡ true → are_known ys (removed same_attrs zs y) ≡ true → filter good (removed same_attrs zs y) ≡ filter good zs → (b : Bool) → same_mark same_attrs z y ≡ b
      → (are_known ys (cond (not b) (z ∷ removed same_attrs zs y) (removed same_attrs zs y)) ≡ true) × (filter good (cond (not b) (z ∷ removed same_attrs zs y) (removed same_attrs zs y)) ≡ cond (good z) (z ∷ filter good zs) (filter good zs))
  bad-step y z ys zs g h k f true e =
      let bad : good z ≡ false = ap good (same-equal same_attrs same_attrs-decides z y e) ∙ g in
      (k, f ∙ sym (ap (λ t. cond t (z ∷ filter good zs) (filter good zs)) bad))
  bad-step y z ys zs g h k f false e = (
    and-make (good z || has same_attrs ys z) (are_known ys (removed same_attrs zs y)) (known-less y ys z (λ s. let c : true ≡ false = sym (same-itself same_attrs same_attrs-decides z) ∙ (ap (same_mark same_attrs z) (sym (same-equal same_attrs same_attrs-decides y z s)) ∙ e) in absurd (cc)) h) k,
    ap (λ v. cond (good z) (z ∷ v) v) f,
  )

  bad-first : (y : Mark Attrs) (ys zs : Marks) → good y ≡ false → are_known (y ∷ ys) zs ≡ true → (are_known ys (removed same_attrs zs y) ≡ true) × (filter good (removed same_attrs zs y) ≡ filter good zs)
  bad-first y ys [] g h = (refl, refl)
  bad-first y ys (z ∷ zs) g h =
      let b = and-two (good z || has same_attrs (y ∷ ys) z) (are_known (y ∷ ys) zs) h in
      let i = bad-first y ys zs g b.1 in
      bad-step y z ys zs g b.0 i.0 i.1 (same_mark same_attrs z y) refl

  sweep-step : (y : Mark Attrs) (ys zs : Marks) → ((v : Marks) → are_known ys v ≡ true → swept ys v ≡ filter good v) → are_known (y ∷ ys) zs ≡ true → (b : Bool) → good y ≡ b → swept ys (cond b zs (removed same_attrs zs y)) ≡ filter good zs
  sweep-step y ys zs rec h true g = rec zs (good-first y ys zs g h)
  sweep-step y ys zs rec h false g = let k = bad-first y ys zs g h in rec (removed same_attrs zs y) k.0 ∙ k.1

  sweeps : (ys zs : Marks) → are_known ys zs ≡ true → swept ys zs ≡ filter good zs
  sweeps [] zs h = sym (all-good zs h)
  sweeps (y ∷ ys) zs h = sweep-step y ys zs (λ v k. sweeps ys v k) h (good y) refl

  pub swept-all : (zs : Marks) → swept zs zs ≡ filter good zs
  swept-all zs = sweeps zs zs (known-itself [] zs)

  -- one mark more is looked at
  pub swept-kept : (xs : Marks) (i : ℕ) (m : Mark Attrs) (zs : Marks) → i < length xs → m ≡ get_or xs i m → good m ≡ true → swept (drop i xs) zs ≡ swept (drop (i + 1) xs) zs
  swept-kept xs i m zs h e g =
      at_drop_more (λ v. swept v zs) xs i m h ∙ (ap (λ v. swept (v ∷ drop (i + 1) xs) zs) (sym e) ∙ ap (λ b. swept (drop (i + 1) xs) (cond b zs (removed same_attrs zs m))) g)

  pub swept-gone : (xs : Marks) (i : ℕ) (m : Mark Attrs) (zs : Marks) → i < length xs → m ≡ get_or xs i m → good m ≡ false → swept (drop i xs) zs ≡ swept (drop (i + 1) xs) (removed same_attrs zs m)
  swept-gone xs i m zs h e g =
      at_drop_more (λ v. swept v zs) xs i m h ∙ (ap (λ v. swept (v ∷ drop (i + 1) xs) zs) (sym e) ∙ ap (λ b. swept (drop (i + 1) xs) (cond b zs (removed same_attrs zs m))) g)

  pub swept-end : (xs : Marks) (i : ℕ) (zs : Marks) → length xs ≤ i → swept (drop i xs) zs ≡ zs
  swept-end xs i zs h = ap (λ v. swept v zs) (drop_all i xs h)
