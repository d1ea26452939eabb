-- A fault of a content or of a default is one of the reading.
use Rattle.std.specs.Prelude.{◌≡◌, ℕ, Err}
use Rattle.serde_json.specs.Data.{Data}
use Rattle.pm_expr.specs.declared.error.ExprError.{ExprError}
use Rattle.pm_expr.specs.declared.error.ExprError.TheVariants as expr
use Rattle.pm_value.specs.declared.fault.ValueError.{ValueError}
use Rattle.pm_value.specs.declared.fault.ValueError.TheVariants as value
use Rattle.pm_schemajson.specs.declared.error.SchemaReadError.TheVariants.{Expr, Attr}
use Rattle.pm_schemajson.specs.Contents.{schema_of}
use Rattle.pm_schemajson.specs.Views.{IsFault}

pub expr-read : (d : Data) (k : ℕ) (e : ExprError) → IsFault d (Expr k e) → schema_of d ≡ Err (Expr k e)
expr-read d k expr.NoMemory i = absurd i
expr-read d k (expr.Syntax at) i = i
expr-read d k (expr.UnknownName at) i = i
expr-read d k (expr.Range at) i = i
expr-read d k (expr.Deep at) i = i

pub attr-read : (d : Data) (e : ValueError) → IsFault d (Attr e) → schema_of d ≡ Err (Attr e)
attr-read d value.NoMemory i = absurd i
attr-read d value.Float i = i
attr-read d value.Wide i = i
attr-read d value.Deep i = i
