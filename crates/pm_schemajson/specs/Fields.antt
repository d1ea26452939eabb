-- The fields of a JSON object.
use Rattle.std.specs.Prelude.{ℕ, List, Bool, Option, Some, None, Result, Ok, Err, is_some, option_and_then, if◌then◌else◌}
use Rattle.serde_json.specs.Data.{Data}
use Rattle.serde_json.specs.Find.{get, as_null, as_str, as_bool}
use Rattle.pm_list.specs.Readings.{◌>>=◌}
use Rattle.pm_schemajson.specs.declared.error.Field.{Field}
use Rattle.pm_schemajson.specs.declared.error.SchemaReadError.{SchemaReadError}
use Rattle.pm_schemajson.specs.declared.error.SchemaReadError.TheVariants.{Shape}

-- a value that is not null
abbrev pub non_null : Data → Option Data
non_null d = if is_some (as_null d) then None else Some d

-- a field that may be absent may also be null
abbrev pub field : List ℕ → Data → Option Data
field key d = option_and_then non_null (get key d)

-- a value of a kind, or a fault of the field
abbrev pub of_kind : {A : Type 0} → Field → Option A → Result A SchemaReadError
of_kind f None = Err (Shape f)
of_kind f (Some x) = Ok x

-- a text that may be absent
abbrev pub text_if : Field → Option Data → Result (Option (List ℕ)) SchemaReadError
text_if f None = Ok None
text_if f (Some d) = of_kind f (as_str d) >>= λ t. Ok (Some t)

-- a text, and what it is where it is absent
abbrev pub text_or : List ℕ → Field → Option Data → Result (List ℕ) SchemaReadError
text_or absent f None = Ok absent
text_or absent f (Some d) = of_kind f (as_str d)

-- a truth value, and what it is where it is absent
abbrev pub truth_or : Bool → Field → Option Data → Result Bool SchemaReadError
truth_or absent f None = Ok absent
truth_or absent f (Some d) = of_kind f (as_bool d)
