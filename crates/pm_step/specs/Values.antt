-- The value that has a plain value.
use Rattle.std.specs.Prelude.{◌≡◌, ℕ, List, [], ◌∷◌, map, refl}
use Rattle.std.proofs.Common.{ap, ◌∙◌}
use Rattle.pm_value.specs.Plain.{Plain, null, truth, int, text, items, fields, plains_of}
use Rattle.pm_value.specs.Told.{list_of, paired}
use Rattle.pm_value.specs.Views.{plain}
use Rattle.pm_value.specs.declared.value.Value.{Value}
use Rattle.pm_value.specs.declared.value.Value.TheVariants.{Null, Bool as Truth, Int, Text, Items, Fields}

abbrev pub as_value : Plain → Value
as_value null = Null
as_value (truth b) = Truth b
as_value (int z) = Int z
as_value (text bs) = Text bs
as_value (items vs) = Items (list_of vs)
as_value (fields ns vs) = Fields (paired ns (list_of vs))

list-back : (vs : List Plain) → list_of (plains_of vs) ≡ vs
list-back [] = refl
list-back (v ∷ vs) = ap (λ ws. v ∷ ws) (list-back vs)

pairs-back : (fs : List (List ℕ × Plain)) → paired (map (λ f. f.0) fs) (map (λ f. f.1) fs) ≡ fs
pairs-back [] = refl
pairs-back (f ∷ fs) = ap (λ gs. f ∷ gs) (pairs-back fs)

-- each value is the one of its plain value
pub value-meant : (v : Value) → as_value (plain v) ≡ v
value-meant Null = refl
value-meant (Truth b) = refl
value-meant (Int z) = refl
value-meant (Text bs) = refl
value-meant (Items vs) = ap Items (list-back vs)
value-meant (Fields fs) = ap Fields (ap (paired (map (λ f. f.0) fs)) (list-back (map (λ f. f.1) fs)) ∙ pairs-back fs)
