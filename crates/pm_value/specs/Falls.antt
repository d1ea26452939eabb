-- A member nests less deep than the list or object that it stands in.
use Rattle.std.specs.Prelude.{suc, ◌≤◌, max, List, [], ◌∷◌, map}
use Rattle.std.proofs.Common.{arith}
use Rattle.pm_value.specs.Plain.{plains_of, plains_depth, depth}
use Rattle.pm_value.specs.Views.{plain, plains, field_pairs}
use Rattle.pm_value.specs.declared.value.Value.{Value}
use Rattle.pm_value.specs.declared.value.Field.{Field}
use Rattle.pm_value.specs.declared.value.Value.TheVariants.{Null, Bool, Int, Text, Items, Fields}
use Rattle.pm_value.specs.declared.value.Fields.TheDeep.{deep-Value, deep-Field}
use denote.Param.Weighed.{most}

deep_le : (v : Value) → deep-Value v ≤ suc (depth (plain v))
deep_le Null = omega arith
deep_le (Bool b) = omega arith
deep_le (Int z) = omega arith
deep_le (Text bs) = omega arith
deep_le (Items vs) = omega arith
deep_le (Fields fs) = omega arith

items_most : (vs : List Value) → most (λ v. deep-Value v) vs ≤ suc (plains_depth (plains_of (plains vs)))
items_most [] = omega arith
items_most (v ∷ vs) = omega (arith, deep_le v, items_most vs)

fields_most : (fs : List Field) → most (λ f. deep-Field f) fs ≤ suc (plains_depth (plains_of (map (λ f. f.1) (field_pairs fs))))
fields_most [] = omega arith
fields_most (f ∷ fs) = omega (arith, deep_le f.value, fields_most fs)

pub items_fall : (vs : List Value) → max (most (λ v. deep-Value v) vs) 0 ≤ suc (plains_depth (plains_of (plains vs)))
items_fall vs = omega (arith, items_most vs)

pub fields_fall : (fs : List Field) → max (most (λ f. deep-Field f) fs) 0 ≤ suc (plains_depth (plains_of (map (λ f. f.1) (field_pairs fs))))
fields_fall fs = omega (arith, fields_most fs)
