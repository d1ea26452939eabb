-- Where a type leads from all states that an automaton reaches.
use Rattle.std.specs.Prelude.{◌≡◌, ℕ, ◌+◌, ◌<◌, ◌≤◌, Bool, true, false, Option, Some, None, IfSome, List, [], ◌∷◌, ◌++◌, length, get_or, slice_index_or, cond, eqb}
use Rattle.std.proofs.Common.{zero, suc, refl, ap, sym, ◌∙◌, subst, arith, append_assoc, length-append, inl, inr}
use Rattle.std.proofs.lemmas.Bool.{cases_lt, eqb-true}
use Rattle.std.proofs.lemmas.List.{get_or_append_left, get_or-append-add}
use Rattle.pm_auto.specs.declared.sets.PlaceSet.{PlaceSet}
use Rattle.pm_auto.specs.declared.auto.Edge.{Edge}
use Rattle.pm_auto.specs.Walks.{target, edges_at, via, accepted}
use Rattle.pm_node.specs.Reached.{IsAmong, AreBelow, Continue, LeadInto, LeadTo, IsOnly, IsFront}
use Rattle.pm_node.proofs.AutoWalk.{accepted-none, accepted-more}

pub still-among : (xs ys : List ℕ) (t : ℕ) → Continue xs ys → IsAmong xs t → IsAmong ys t
still-among xs ys t c i = let h = c i.at i.within in record { at = i.at; within = h.0; is = h.1 ∙ i.is }

pub continue-on : (xs ys zs : List ℕ) → Continue xs ys → Continue ys zs → Continue xs zs
continue-on xs ys zs c d j l = let h = c j l in let k = d j h.0 in (k.0, k.1 ∙ h.1)

pub continue-same : (xs : List ℕ) → Continue xs xs
continue-same xs j l = (l, refl)

pub continue-push : (xs ys : List ℕ) (x : ℕ) → ys ≡ xs ++ x ∷ [] → Continue xs ys
continue-push xs ys x e j l =
    (omega (arith, l, ap length e, length-append xs (x ∷ [])), ap (λ z. get_or z j 0) e ∙ get_or_append_left xs (x ∷ []) 0 j l)

push-at : (xs ys : List ℕ) (x : ℕ) → ys ≡ xs ++ x ∷ [] → get_or ys (length xs + 0) 0 ≡ x
push-at xs ys x e = ap (λ z. get_or z (length xs + 0) 0) e ∙ get_or-append-add xs (x ∷ []) 0 0

pub among-push : (xs ys : List ℕ) (x : ℕ) → ys ≡ xs ++ x ∷ [] → IsAmong ys x
among-push xs ys x e = record {
  at = length xs + 0;
  within = omega (arith, ap length e, length-append xs (x ∷ []));
  is = push-at xs ys x e;
}

pub below-push : (n : ℕ) (xs ys : List ℕ) (x : ℕ) → ys ≡ xs ++ x ∷ [] → x < n → AreBelow n xs → AreBelow n ys
below-push n xs ys x e l h j k =
    elim (cases_lt j (length xs)) [
      | inl b ↦ omega (arith, h j b, (continue-push xs ys x e j b).1)
      | inr b ↦
          let at : j ≡ length xs + 0 = omega (arith, b, k, ap length e, length-append xs (x ∷ [])) in
          omega (arith, l, ap (λ z. get_or ys z 0) at, push-at xs ys x e)
    ]

-- the type of an edge
abbrev pub kind_at : List Edge → ℕ → ℕ
kind_at es i = (slice_index_or es i record { kind = 0; to = 0 }).kind

either : {P : Type 0} (b : Bool) → (b ≡ true → P) → (b ≡ false → P) → P
either true f g = f refl
either false f g = g refl

-- what holds of the type of each edge holds of each type that has one
by-edges : (Q : ℕ → Type 0) (es : List Edge) (k t : ℕ) → ((i : ℕ) → i < length es → Q (kind_at es i)) → target k es ≡ Some t → Q k
by-edges Q [] k t h e = absurd (cc)
by-edges Q (x ∷ es) k t h e =
    either (eqb x.kind k) (λ b. subst Q (eqb-true x.kind k b) (h 0 (omega arith)))
    (λ b. by-edges Q es k t (λ i l. h (suc i) (omega (arith, l))) (sym (ap (λ z. cond z (Some x.to) (target k es)) b) ∙ e))

pub all-edges : (ess : List (List Edge)) (s : ℕ) (xs : List ℕ) → ((i : ℕ) → i < length (edges_at ess s) → (t : ℕ) → target (kind_at (edges_at ess s) i) (edges_at ess s) ≡ Some t → IsAmong xs t) → LeadInto ess s xs
all-edges ess s xs h k t e =
    let Q : ℕ → Type 0 = λ z. (u : ℕ) → target z (edges_at ess s) ≡ Some u → IsAmong xs u in
    by-edges Q (edges_at ess s) k t h e t e

-- all that is reached stays among states that all edges lead into
module _ (ss : List PlaceSet) (ess : List (List Edge)) (xs : List ℕ) (k r : ℕ) (closed : (j : ℕ) → j < length xs → LeadInto ess (get_or xs j 0) xs) (to : LeadTo ess k xs r) where
  at-type : (s : ℕ) → IsAmong xs s → (v w : List ℕ) (o : Option ℕ) → target k (edges_at ess s) ≡ o → accepted ss ess s (k ∷ v) ≡ true → accepted ss ess s (k ∷ w) ≡ accepted ss ess r w
  at-type s i v w None e h = let n = accepted-none ss ess s k v e in absurd (cc)
  at-type s i v w (Some t) e h =
      let is : t ≡ r = to i.at t i.within (ap (λ z. target k (edges_at ess z)) i.is ∙ e) in
      accepted-more ss ess s k t w e ∙ ap (λ z. accepted ss ess z w) is

  beyond : (s : ℕ) → IsAmong xs s → (x : ℕ) (v w : List ℕ) (b : Bool) (o : Option ℕ) → target x (edges_at ess s) ≡ o → ((t : ℕ) → IsAmong xs t → accepted ss ess t v ≡ true → accepted ss ess t w ≡ b) → accepted ss ess s (x ∷ v) ≡ true → accepted ss ess s (x ∷ w) ≡ b
  beyond s i x v w b None e on h = let n = accepted-none ss ess s x v e in absurd (cc)
  beyond s i x v w b (Some t) e on h =
      let j : IsAmong xs t = closed i.at i.within x t (ap (λ z. target x (edges_at ess z)) i.is ∙ e) in
      accepted-more ss ess s x t w e ∙ on t j (sym (accepted-more ss ess s x t v e) ∙ h)

  through : (s : ℕ) → IsAmong xs s → (a v w : List ℕ) → accepted ss ess s (a ++ k ∷ v) ≡ true → accepted ss ess s (a ++ k ∷ w) ≡ accepted ss ess r w
  through s i [] v w h = at-type s i v w (target k (edges_at ess s)) refl h
  through s i (x ∷ a) v w h = beyond s i x (a ++ k ∷ v) (a ++ k ∷ w) (accepted ss ess r w) (target x (edges_at ess s)) refl (λ t j g. through t j a v w g) h

  pub only-state : IsAmong xs 0 → IsOnly ss ess k r
  only-state i a v w h = through 0 i a v w h

-- the edges that were gone through lead to what was found
pub leads-more : (es here : List Edge) (xs ys : List ℕ) (n : ℕ) (o : Option ℕ) → o ≡ target (kind_at es n) here → ((i : ℕ) → i < n → (t : ℕ) → target (kind_at es i) here ≡ Some t → IsAmong xs t) → Continue xs ys → ((t : ℕ) → o ≡ Some t → IsAmong ys t) → (i : ℕ) → i < n + 1 → (t : ℕ) → target (kind_at es i) here ≡ Some t → IsAmong ys t
leads-more es here xs ys n o is h c next i l t e =
    elim (cases_lt i n) [
      | inl b ↦ still-among xs ys t c (h i b t e)
      | inr b ↦
          let at : i ≡ n = omega (arith, b, l) in
          next t (is ∙ (ap (λ z. target (kind_at es z) here) (sym at) ∙ e))
    ]

-- and so do all edges of the states before i, and of state i
pub closed-more : (ess : List (List Edge)) (xs ys : List ℕ) (i s : ℕ) → Continue xs ys → i < length xs → s ≡ get_or xs i 0 → ((j : ℕ) → j < i → LeadInto ess (get_or xs j 0) xs) → LeadInto ess s ys → (j : ℕ) → j < i + 1 → LeadInto ess (get_or ys j 0) ys
closed-more ess xs ys i s c lt is h here j l k t e =
    elim (cases_lt j i) [
      | inl b ↦
          let same = (c j (omega (arith, b, lt))).1 in
          still-among xs ys t c (h j b k t (ap (λ z. target k (edges_at ess z)) (sym same) ∙ e))
      | inr b ↦
          let at : j ≡ i = omega (arith, b, l) in
          let same = (c i lt).1 in
          here k t (ap (λ z. target k (edges_at ess z)) (is ∙ (sym same ∙ ap (λ z. get_or ys z 0) (sym at))) ∙ e)
    ]

-- where the type leads from the first i states, it is to this one
abbrev pub Agrees : List (List Edge) → ℕ → List ℕ → ℕ → Option ℕ → Type 0
Agrees ess k xs i o = (j t : ℕ) → j < i → target k (edges_at ess (get_or xs j 0)) ≡ Some t → o ≡ Some t

pub agrees-more : (ess : List (List Edge)) (k : ℕ) (xs : List ℕ) (i : ℕ) (o p r : Option ℕ) → Agrees ess k xs i o → r ≡ target k (edges_at ess (get_or xs i 0)) → ((t : ℕ) → o ≡ Some t → p ≡ Some t) → ((t : ℕ) → r ≡ Some t → p ≡ Some t) → Agrees ess k xs (i + 1) p
agrees-more ess k xs i o p r h is old new j t l e =
    elim (cases_lt j i) [
      | inl b ↦ old t (h j t b e)
      | inr b ↦
          let at : j ≡ i = omega (arith, b, l) in
          new t (is ∙ (ap (λ z. target k (edges_at ess (get_or xs z 0))) (sym at) ∙ e))
    ]

pub if-agrees : (ess : List (List Edge)) (k : ℕ) (xs : List ℕ) (i : ℕ) (o : Option ℕ) → Agrees ess k xs i o → length xs ≤ i → IfSome o (LeadTo ess k xs)
if-agrees ess k xs i None h l = tt
if-agrees ess k xs i (Some r) h l = λ j t b e. let s = h j t (omega (arith, b, l)) e in cc

pub if-only : (ss : List PlaceSet) (ess : List (List Edge)) (xs ys : List ℕ) (k : ℕ) (o : Option ℕ) → ys ≡ xs → ((j : ℕ) → j < length xs → LeadInto ess (get_or xs j 0) xs) → IsAmong xs 0 → IfSome o (LeadTo ess k ys) → IfSome o (IsOnly ss ess k)
if-only ss ess xs ys k None e closed i h = tt
if-only ss ess xs ys k (Some r) e closed i h =
    let P : List ℕ → Type 0 = λ z. LeadTo ess k z r in
    only-state ss ess xs k r closed (subst P e h) i

-- the state after types of which the last one leads to one state
pub front-only : (ss : List PlaceSet) (ess : List (List Edge)) (front a : List ℕ) (k : ℕ) (o : Option ℕ) → front ≡ a ++ k ∷ [] → IfSome o (IsOnly ss ess k) → IfSome o (IsFront ss ess front)
front-only ss ess front a k None e h = tt
front-only ss ess front a k (Some s) e h = λ v w f.
    let at : (z : List ℕ) → front ++ z ≡ a ++ k ∷ z = λ z. ap (λ y. y ++ z) e ∙ append_assoc a (k ∷ []) z in
    ap (accepted ss ess 0) (at w) ∙ h a v w (sym (ap (accepted ss ess 0) (at v)) ∙ f)

-- the state to which all types lead
pub front-walked : (ss : List PlaceSet) (ess : List (List Edge)) (front : List ℕ) (o : Option ℕ) → ((w : List ℕ) → accepted ss ess 0 (front ++ w) ≡ via (λ t. accepted ss ess t w) o) → IfSome o (IsFront ss ess front)
front-walked ss ess front None h = tt
front-walked ss ess front (Some s) h = λ v w f. h w
