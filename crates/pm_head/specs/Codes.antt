-- The codes of faults. Running out of memory has none.
use Rattle.std.specs.Prelude.{Option, Some, None}
use Rattle.pm_auto.specs.declared.error.AutoError.{AutoError}
use Rattle.pm_auto.specs.declared.error.AutoError.TheVariants as auto
use Rattle.pm_schema.specs.declared.error.SchemaError.{SchemaError}
use Rattle.pm_schema.specs.declared.error.SchemaError.TheVariants as schema
use Rattle.pm_schemajson.specs.declared.error.SchemaReadError.{SchemaReadError}
use Rattle.pm_schemajson.specs.declared.error.SchemaReadError.TheVariants as read
use Rattle.pm_docjson.specs.declared.fault.DocReadError.{DocReadError}
use Rattle.pm_docjson.specs.declared.fault.DocReadError.TheVariants as doc
use Rattle.pm_node.specs.declared.filled.FillError.{FillError}
use Rattle.pm_node.specs.declared.filled.FillError.TheVariants as fill
use Rattle.pm_head.specs.declared.code.Code.{Code}
use Rattle.pm_head.specs.declared.code.Code.TheVariants as code

-- an expression that mixes inline and block types, or has too many places or states
abbrev pub auto_code : AutoError → Option Code
auto_code auto.Mixed = Some code.MixedOrWide
auto_code auto.TooWide = Some code.MixedOrWide
auto_code auto.NoMemory = None

-- types that make no schema
abbrev pub build_code : SchemaError → Option Code
build_code schema.NoTop = Some code.NoSchema
build_code schema.NoText = Some code.NoSchema
build_code schema.TextAttrs = Some code.NoSchema
build_code schema.DoubleName = Some code.NoSchema
build_code schema.UnknownMark = Some code.NoSchema
build_code (schema.Content e) = auto_code e
build_code (schema.DeadEnd k) = Some code.DeadEnd
build_code schema.NoMemory = None

-- a value that is no schema
abbrev pub schema_code : SchemaReadError → Option Code
schema_code (read.Shape f) = Some code.WrongShape
schema_code (read.Name f) = Some code.UnknownName
schema_code (read.Attr e) = Some code.BadAttribute
schema_code (read.BadDefault n) = Some code.BadAttribute
schema_code (read.Expr k e) = Some code.BadExpression
schema_code (read.Schema e) = build_code e
schema_code read.NoMemory = None

-- a value that is no node
abbrev pub node_code : DocReadError → Option Code
node_code doc.Shape = Some code.WrongShape
node_code doc.UnknownType = Some code.UnknownName
node_code doc.Attr = Some code.BadAttribute
node_code doc.EmptyText = Some code.EmptyText
node_code doc.NotASet = Some code.NotASet
node_code doc.Open = Some code.OpenOrLarge
node_code doc.Large = Some code.OpenOrLarge
node_code doc.NoMemory = None

-- a type that can't be filled
abbrev pub fill_code : FillError → Option Code
fill_code fill.NotGeneratable = Some code.InvalidDocument
fill_code fill.Deep = Some code.InvalidDocument
fill_code fill.Large = Some code.InvalidDocument
fill_code fill.NoMemory = None
