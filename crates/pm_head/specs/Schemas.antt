-- The schema that line 1 writes.
use Rattle.std.specs.Prelude.{◌≡◌, ℕ, List, Some, Result, Ok, Err}
use Rattle.serde_json.specs.Data.{Data}
use Rattle.pm_schema.specs.declared.schema.Schema.{Schema}
use Rattle.pm_schemajson.specs.declared.error.SchemaReadError.{SchemaReadError}
use Rattle.pm_schemajson.specs.Views.{IsFault, IsSchemaOf}
use Rattle.pm_head.specs.declared.code.Code.{Code}
use Rattle.pm_head.specs.Codes.{schema_code}
use Rattle.pm_head.specs.Lines.{json_line}

-- what is true of a line's value, and of the line where it has none: it has that code
abbrev pub OfValue : {X : Type 0} → (Data → Result X Code → Type 0) → Result Data Code → Result X Code → Type 0
OfValue P (Ok d) r = P d r
OfValue P (Err code) r = r ≡ Err code

-- the schema that is built of the types which the value writes, or the code of its first fault
abbrev pub SchemaIs : Data → Result Schema Code → Type 0
SchemaIs d (Ok s) = IsSchemaOf d s
SchemaIs d (Err code) = (e : SchemaReadError) × IsFault d e × (schema_code e ≡ Some code)

-- line 1
abbrev pub SchemaLine : List ℕ → Result Schema Code → Type 0
SchemaLine line r = OfValue SchemaIs (json_line line) r
