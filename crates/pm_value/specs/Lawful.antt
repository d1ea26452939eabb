-- The test of values tells equal values from others, so it is an equivalence.
use Rattle.std.specs.Prelude.{◌≡◌, ◌↔◌, ℕ, List, [], ◌∷◌, Bool, true, false, ◌&&◌, refl}
use Rattle.std.proofs.Common.{ap, ap₂, sym, subst}
use Rattle.std.specs.Str.{bytes_eq}
use Rattle.std.specs.Cmp.{IsEquivalence, on_equiv}
use Rattle.std.proofs.lemmas.Slice.Eq.{bytes_eq-Decides}
use Rattle.std.proofs.lemmas.Bool.Decides.{Decides-int_eq}
use Rattle.pm_value.specs.Plain.{Plain, null, truth, int, text, items, fields, Plains, none, one}
use Rattle.pm_value.specs.Views.{plain}
use Rattle.pm_value.specs.Equal.{same_truth, same_names, same_value, same_values}
use Rattle.pm_value.specs.Told.{plain-told}
use Rattle.pm_value.specs.declared.value.Value.{Value}

both : (a b : Bool) → (a && b) ≡ true → (a ≡ true) × (b ≡ true)
both true b h = (refl, h)
both false b h = absurd (cc)

truth-equal : (a b : Bool) → same_truth a b ≡ true → a ≡ b
truth-equal true true h = refl
truth-equal true false h = absurd (cc)
truth-equal false true h = absurd (cc)
truth-equal false false h = refl

truth-itself : (a : Bool) → same_truth a a ≡ true
truth-itself true = refl
truth-itself false = refl

names-equal : (ms ns : List (List ℕ)) → same_names ms ns ≡ true → ms ≡ ns
names-equal [] [] h = refl
names-equal [] (n ∷ ns) h = absurd (cc)
names-equal (m ∷ ms) [] h = absurd (cc)
names-equal (m ∷ ms) (n ∷ ns) h =
    let parts = both (bytes_eq m n) (same_names ms ns) h in
    ap₂ (λ x xs. x ∷ xs) ((bytes_eq-Decides m n).0 parts.0) (names-equal ms ns parts.1)

names-itself : (ns : List (List ℕ)) → same_names ns ns ≡ true
names-itself [] = refl
names-itself (n ∷ ns) = rw ((bytes_eq-Decides n n).1 refl, names-itself ns) refl

mutual
  unfolding same_value

  pub value-equal : (v w : Plain) → same_value v w ≡ true → v ≡ w
  value-equal null null h = refl
  value-equal (truth a) (truth b) h = ap truth (truth-equal a b h)
  value-equal (int a) (int b) h = ap int ((Decides-int_eq a b).0 h)
  value-equal (text a) (text b) h = ap text ((bytes_eq-Decides a b).0 h)
  value-equal (items a) (items b) h = ap items (values-equal a b h)
  value-equal (fields ns a) (fields ms b) h =
      let parts = both (same_names ns ms) (same_values a b) h in
      ap₂ (λ x y. fields x y) (names-equal ns ms parts.0) (values-equal a b parts.1)
  value-equal v w h = absurd (cc)

  pub values-equal : (vs ws : Plains) → same_values vs ws ≡ true → vs ≡ ws
  values-equal none none h = refl
  values-equal none (one w ws) h = absurd (cc)
  values-equal (one v vs) none h = absurd (cc)
  values-equal (one v vs) (one w ws) h =
      let parts = both (same_value v w) (same_values vs ws) h in
      ap₂ (λ x xs. one x xs) (value-equal v w parts.0) (values-equal vs ws parts.1)

mutual
  unfolding same_value

  pub value-itself : (v : Plain) → same_value v v ≡ true
  value-itself null = refl
  value-itself (truth b) = truth-itself b
  value-itself (int z) = (Decides-int_eq z z).1 refl
  value-itself (text bs) = (bytes_eq-Decides bs bs).1 refl
  value-itself (items vs) = values-itself vs
  value-itself (fields ns vs) = rw (names-itself ns, values-itself vs) refl

  pub values-itself : (vs : Plains) → same_values vs vs ≡ true
  values-itself none = refl
  values-itself (one v vs) = rw (value-itself v, values-itself vs) refl

pub same-decides : (v w : Value) → (same_value (plain v) (plain w) ≡ true) ↔ (v ≡ w)
same-decides v w = (λ h. plain-told v w (value-equal (plain v) (plain w) h), λ e. subst (λ x. same_value (plain v) (plain x) ≡ true) e (value-itself (plain v)))

alike : (a b : Bool) → (a ≡ true → b ≡ true) → (b ≡ true → a ≡ true) → a ≡ b
alike true b to from = sym (to refl)
alike false true to from = from refl
alike false false to from = refl

plain-lawful : IsEquivalence same_value
plain-lawful = record {
  refl = value-itself;
  symm = λ v w. alike (same_value v w) (same_value w v) (λ h. subst (λ x. same_value x v ≡ true) (value-equal v w h) (value-itself v)) (λ h. subst (λ x. same_value x w ≡ true) (value-equal w v h) (value-itself w));
  congr = λ u v w h. ap (λ x. same_value x w) (value-equal u v h);
}

pub value-lawful : IsEquivalence (λ v w. same_value (plain v) (plain w))
value-lawful = on_equiv plain plain-lawful
