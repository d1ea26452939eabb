-- The value that the code holds, as a plain value.
use Rattle.std.specs.Prelude.{ℕ, List, map}
use Rattle.pm_value.specs.Plain.{Plain, null, truth, int, text, items, plains_of, fields_of}
use Rattle.pm_value.specs.declared.value.Value.{Value}
use Rattle.pm_value.specs.declared.value.Value.TheVariants.{Null, Bool, Int, Text, Items, Fields}
use Rattle.pm_value.specs.declared.value.Field.{Field}

abbrev pub plain : Value → Plain
plain Null = null
plain (Bool b) = truth b
plain (Int z) = int z
plain (Text bs) = text bs
plain (Items vs) = items (plains_of vs)
plain (Fields fs) = fields_of fs

abbrev pub plains : List Value → List Plain
plains vs = map plain vs

-- a field as its name's bytes and its value
abbrev pub field_pair : Field → List ℕ × Plain
field_pair f = (f.name, plain f.value)

abbrev pub field_pairs : List Field → List (List ℕ × Plain)
field_pairs fs = map field_pair fs
