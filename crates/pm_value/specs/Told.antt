-- Values with the same plain value are the same, so that what is read back as the same plain value is the same value.
use Rattle.std.specs.Prelude.{◌≡◌, ℕ, List, [], ◌∷◌, map, refl}
use Rattle.std.proofs.Common.{ap, ap₂, sym, ◌∙◌}
use Rattle.pm_value.specs.Plain.{Plain, Plains, none, one, plains_of, fields_of}
use Rattle.pm_value.specs.Views.{plain}
use Rattle.pm_value.specs.declared.value.Value.{Value}
use Rattle.pm_value.specs.declared.value.Value.TheVariants.{Null, Bool as Truth, Int, Text, Items, Fields}

abbrev pub list_of : Plains → List Plain
list_of none = []
list_of (one v vs) = v ∷ list_of vs

abbrev pub paired : List (List ℕ) → List Plain → List (List ℕ × Plain)
paired [] vs = []
paired (n ∷ ns) [] = []
paired (n ∷ ns) (v ∷ vs) = (n, v) ∷ paired ns vs

list-again : (vs : List Plain) → list_of (plains_of vs) ≡ vs
list-again [] = refl
list-again (v ∷ vs) = ap (λ ws. v ∷ ws) (list-again vs)

pairs-again : (fs : List (List ℕ × Plain)) → paired (map (λ f. f.0) fs) (map (λ f. f.1) fs) ≡ fs
pairs-again [] = refl
pairs-again (f ∷ fs) = ap (λ gs. f ∷ gs) (pairs-again fs)

plains-told : (vs ws : List Plain) → plains_of vs ≡ plains_of ws → vs ≡ ws
plains-told vs ws h = sym (list-again vs) ∙ ap list_of h ∙ list-again ws

fields-told : (fs gs : List (List ℕ × Plain)) → fields_of fs ≡ fields_of gs → fs ≡ gs
fields-told fs gs h =
    let names : map (λ f. f.0) fs ≡ map (λ g. g.0) gs = cc in
    let values : plains_of (map (λ f. f.1) fs) ≡ plains_of (map (λ g. g.1) gs) = cc in
    sym (pairs-again fs) ∙ ap₂ paired names (plains-told (map (λ f. f.1) fs) (map (λ g. g.1) gs) values) ∙ pairs-again gs

pub plain-told : (v w : Value) → plain v ≡ plain w → v ≡ w
plain-told Null Null h = refl
plain-told (Truth a) (Truth b) h = let e : a ≡ b = cc in ap Truth e
plain-told (Int a) (Int b) h = let e : a ≡ b = cc in ap Int e
plain-told (Text a) (Text b) h = let e : a ≡ b = cc in ap Text e
plain-told (Items a) (Items b) h = let e : plains_of a ≡ plains_of b = cc in ap Items (plains-told a b e)
plain-told (Fields a) (Fields b) h = ap Fields (fields-told a b h)
plain-told v w h = absurd (cc)
