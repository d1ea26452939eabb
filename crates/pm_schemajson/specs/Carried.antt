-- The errors that other errors become. Running out of memory is handed on as one's own.
use Rattle.std.specs.Prelude.{ℕ}
use Rattle.pm_value.specs.declared.fault.ValueError.{ValueError}
use Rattle.pm_value.specs.declared.fault.ValueError.TheVariants as value
use Rattle.pm_schema.specs.declared.error.SchemaError.{SchemaError}
use Rattle.pm_schema.specs.declared.error.SchemaError.TheVariants as schema
use Rattle.pm_expr.specs.declared.error.ExprError.{ExprError}
use Rattle.pm_expr.specs.declared.error.ExprError.TheVariants as expr
use Rattle.pm_schemajson.specs.declared.error.SchemaReadError.{SchemaReadError}
use Rattle.pm_schemajson.specs.declared.error.SchemaReadError.TheVariants as read

abbrev pub value_carried : ValueError → SchemaReadError
value_carried value.NoMemory = read.NoMemory
value_carried e = read.Attr e

abbrev pub schema_carried : SchemaError → SchemaReadError
schema_carried schema.NoMemory = read.NoMemory
schema_carried e = read.Schema e

-- a fault of the content of a node type
abbrev pub expr_carried : (kind : ℕ) → ExprError → SchemaReadError
expr_carried kind expr.NoMemory = read.NoMemory
expr_carried kind e = read.Expr kind e
