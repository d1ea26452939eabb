-- The schema and the document in a line.
use Rattle.std.specs.Prelude.{codes, Result}
use Rattle.serde_json.specs.Data.{Data}
use Rattle.serde_json.specs.Find.{get}
use Rattle.pm_list.specs.Readings.{or_fault}
use Rattle.pm_tokens.specs.Tokens.{Doc as Document}
use Rattle.pm_schema.specs.declared.schema.Schema.{Schema}
use Rattle.pm_head.specs.declared.code.Code.{Code}
use Rattle.pm_head.specs.declared.code.Code.TheVariants.{WrongShape}
use Rattle.pm_head.specs.Schemas.{OfValue, SchemaIs}
use Rattle.pm_head.specs.Documents.{DocIs}

-- the schema at `schema`, which must be there, or the code of its fault
abbrev pub SchemaIn : Data → Result Schema Code → Type 0
SchemaIn d r = OfValue SchemaIs (or_fault WrongShape (get (codes "schema") d)) r

-- the document at `doc`, which must be there, or the code of its fault; null is the top type filled
abbrev pub DocumentIn : Schema → Data → Result Document Code → Type 0
DocumentIn s d r = OfValue (DocIs s) (or_fault WrongShape (get (codes "doc") d)) r
