-- Lists of other lengths are not equal.
use Rattle.std.proofs.Common.{◌≡◌, length, suc, List, [], ◌∷◌, Bool, true, false, ◌&&◌, refl, ap, map}
use Rattle.pm_value.specs.Plain.{plains_of}
use Rattle.pm_value.specs.Views.{plains, field_pairs}
use Rattle.pm_value.specs.Equal.{same_values, same_pairs}
use Rattle.pm_value.specs.declared.value.Value.{Value}
use Rattle.pm_value.specs.declared.value.Field.{Field}

false_right : (a b : Bool) → false ≡ b → false ≡ (a && b)
false_right true b h = h
false_right false b h = refl

pub values-differ : (vs ws : List Value) → ((length vs ≡ length ws) → ⊥) → false ≡ same_values (plains_of (plains vs)) (plains_of (plains ws))
unfolding same_values
values-differ [] [] h = absurd (h refl)
values-differ [] (w ∷ ws) h = refl
values-differ (v ∷ vs) [] h = refl
values-differ (v ∷ vs) (w ∷ ws) h = false_right _ _ (values-differ vs ws (λ e. h (ap suc e)))

pub pairs-differ : (fs gs : List Field) → ((length fs ≡ length gs) → ⊥) → false ≡ same_pairs (field_pairs fs) (field_pairs gs)
unfolding same_values
pairs-differ fs gs h = false_right _ _ (from fs gs h)
  where
    from : (xs ys : List Field) → ((length xs ≡ length ys) → ⊥) → false ≡ same_values (plains_of (map (λ f. f.1) (field_pairs xs))) (plains_of (map (λ g. g.1) (field_pairs ys)))
    from [] [] h = absurd (h refl)
    from [] (y ∷ ys) h = refl
    from (x ∷ xs) [] h = refl
    from (x ∷ xs) (y ∷ ys) h = false_right _ _ (from xs ys (λ e. h (ap suc e)))
