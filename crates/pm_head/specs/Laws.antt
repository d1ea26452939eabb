-- What follows for the schema of a line.
use Rattle.std.specs.Prelude.{◌≡◌, Ok, Err}
use Rattle.serde_json.specs.Data.{Data}
use Rattle.pm_schema.specs.declared.schema.Schema.{Schema}
use Rattle.pm_head.specs.declared.code.Code.{Code}
use Rattle.pm_head.specs.Schemas.{SchemaIs}

-- a value that writes a schema has no fault
abbrev pub SchemaExcludesFault : Data → Type 0
SchemaExcludesFault d = (s : Schema) (code : Code) → SchemaIs d (Ok s) → SchemaIs d (Err code) → ⊥

-- the code of its first fault is one
abbrev pub HasOneCode : Data → Type 0
HasOneCode d = (code other : Code) → SchemaIs d (Err code) → SchemaIs d (Err other) → code ≡ other
