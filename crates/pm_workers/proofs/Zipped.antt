-- Lists that grow together, and iterators that are equal.
use Rattle.std.proofs.Common.{◌≡◌, List, [], ◌∷◌, ◌++◌, Option, length, map, sym, ap, ◌∙◌, subst, arith}
use Rattle.std.specs.List.{zip}
use Rattle.std.proofs.lemmas.Iterator.{YieldsList}
use Rattle.std.proofs.lemmas.List.{map-append}
use Rattle.std.proofs.lemmas.Simd.{map-map}
use Rattle.std.proofs.lemmas.Slice.Zip.{length-zip, firsts-zip, seconds-zip}
use Rattle.pm_workers.proofs.Unused.{same-items}

-- one item more on both sides
pub more-of : {A B D : Type 0} (f : A → D) (g : B → D) (ws new : List A) (ys : List B) (w : A) (y : B) → new ≡ ws ++ w ∷ [] → f w ≡ g y → map f ws ≡ map g ys → map f new ≡ map g (ys ++ y ∷ [])
more-of f g ws new ys w y is same before =
    ap (map f) is ∙ map-append f ws (w ∷ []) ∙ ap (λ l. l ++ f w ∷ []) before ∙ ap (λ v. map g ys ++ v ∷ []) same ∙ sym (map-append g ys (y ∷ []))

-- one item more in a list that has what `g` gives
pub more-given : {B D : Type 0} (g : B → D) (xs new : List D) (ys : List B) (x : D) (y : B) → new ≡ xs ++ x ∷ [] → x ≡ g y → xs ≡ map g ys → new ≡ map g (ys ++ y ∷ [])
more-given g xs new ys x y is same before = is ∙ ap (λ l. l ++ x ∷ []) before ∙ ap (λ v. map g ys ++ v ∷ []) same ∙ sym (map-append g ys (y ∷ []))

-- what one iterator yields, an equal one does
pub yields-at : {S A B : Type 0} {steps : S → Option A → S → Type 0} {v : A → B} {ys : List B} {s t : S} → t ≡ s → YieldsList steps v s ys → YieldsList steps v t ys
yields-at {steps = steps} {v = v} {ys = ys} e h = subst (λ s. YieldsList steps v s ys) (sym e) h

-- what three lists of one length hold, side by side
pub record Three {A B D : Type 0} (xs : List A) (ys : List B) (zs : List D) (all : List ((A × B) × D)) : Type 0 where
  pub first : map (λ p. p.0.0) all ≡ xs
  pub second : map (λ p. p.0.1) all ≡ ys
  pub third : map (λ p. p.1) all ≡ zs

pub three : {A B D : Type 0} (xs : List A) (ys : List B) (zs : List D) (all : List ((A × B) × D)) → length ys ≡ length xs → length zs ≡ length xs
    → map (λ (p : (A × B) × D). ((p.0.0, p.0.1), p.1)) all ≡ zip (zip xs ys) zs → Three xs ys zs all
three {A} {B} {D} xs ys zs all ey ez e =
    let pairs = zip xs ys in
    let is : all ≡ zip pairs zs = sym (same-items all) ∙ e in
    let long : length zs ≡ length pairs = ez ∙ sym (length-zip xs ys ∙ omega (arith, ey)) in
    let fronts : map (λ (p : (A × B) × D). p.0) all ≡ pairs = ap (map (λ (p : (A × B) × D). p.0)) is ∙ firsts-zip pairs zs long in
    record {
      first = sym (map-map (λ (p : A × B). p.0) (λ (p : (A × B) × D). p.0) all) ∙ ap (map (λ (p : A × B). p.0)) fronts ∙ firsts-zip xs ys ey;
      second = sym (map-map (λ (p : A × B). p.1) (λ (p : (A × B) × D). p.0) all) ∙ ap (map (λ (p : A × B). p.1)) fronts ∙ seconds-zip xs ys ey;
      third = ap (map (λ (p : (A × B) × D). p.1)) is ∙ seconds-zip pairs zs long;
    }
