-- The types of the code, as the definitions see them.
use Rattle.std.specs.Prelude.{◌≡◌, ℕ, List, map, option_map, Ok, Err}
use Rattle.serde_json.specs.Data.{Data}
use Rattle.pm_value.specs.Views.{plain}
use Rattle.pm_value.specs.declared.fault.ValueError.TheVariants as value
use Rattle.pm_auto.specs.Tree.{Tree, tree}
use Rattle.pm_expr.specs.declared.error.ExprError.TheVariants as expr
use Rattle.pm_schema.specs.declared.spec.AttrSpec.{AttrSpec}
use Rattle.pm_schema.specs.declared.spec.NodeSpec.{NodeSpec}
use Rattle.pm_schema.specs.declared.spec.MarkSpec.{MarkSpec}
use Rattle.pm_schema.specs.declared.spec.SchemaSpec.{SchemaSpec}
use Rattle.pm_schema.specs.declared.error.SchemaError.{SchemaError}
use Rattle.pm_schema.specs.declared.error.SchemaError.TheVariants as build
use Rattle.pm_schema.specs.declared.schema.Schema.{Schema as BuiltSchema}
use Rattle.pm_schema.specs.Built.{IsBuilt}
use Rattle.pm_schema.specs.Refusals.{IsRefused}
use Rattle.pm_schemajson.specs.declared.kinds.NodeText.{NodeText}
use Rattle.pm_schemajson.specs.declared.error.SchemaReadError.{SchemaReadError}
use Rattle.pm_schemajson.specs.declared.error.SchemaReadError.TheVariants.{Schema, Expr, Attr, NoMemory}
use Rattle.pm_schemajson.specs.Types.{Attribute, NodeType, MarkType, Types}
use Rattle.pm_schemajson.specs.Contents.{schema_of}

abbrev pub attribute : AttrSpec → Attribute
attribute a = record { name = a.name; default = option_map plain a.default; validate = a.validate }

abbrev pub attributes : List AttrSpec → List Attribute
attributes xs = map attribute xs

-- a node type of a schema's spec
abbrev pub node_type : NodeSpec → NodeType Tree
node_type n = record { name = n.name; content = tree n.content; groups = n.groups; marks = n.marks; inline = n.inline; atom = n.atom; attrs = attributes n.attrs }

-- a node type whose content is still a text
abbrev pub node_text : NodeText → NodeType (List ℕ)
node_text n = record { name = n.name; content = n.content; groups = n.groups; marks = n.marks; inline = n.inline; atom = n.atom; attrs = attributes n.attrs }

abbrev pub node_texts : List NodeText → List (NodeType (List ℕ))
node_texts ns = map node_text ns

abbrev pub node_types : List NodeSpec → List (NodeType Tree)
node_types ns = map node_type ns

abbrev pub mark_type : MarkSpec → MarkType
mark_type m = record { name = m.name; attrs = attributes m.attrs; inclusive = m.inclusive; excludes = m.excludes; groups = m.groups }

abbrev pub mark_types : List MarkSpec → List MarkType
mark_types ms = map mark_type ms

abbrev pub types_of_spec : SchemaSpec → Types Tree
types_of_spec s = record { nodes = node_types s.nodes; marks = mark_types s.marks; top = s.top; version = s.version }

-- the schema is built of the types that this JSON writes
abbrev pub IsSchemaOf : Data → BuiltSchema → Type 0
IsSchemaOf d s = (schema_of d ≡ Ok (types_of_spec s.spec)) × IsBuilt s

-- types that this JSON writes, of which no schema can be built
pub record Refused (d : Data) (e : SchemaError) : Type 0 where
  pub spec : SchemaSpec
  pub written : schema_of d ≡ Ok (types_of_spec spec)
  pub refused : IsRefused spec e

-- Why a JSON value is no schema: a fault of its reading, or what it writes is refused; or memory ran out. No fault of a
-- content, of a default or of building carries running out of memory.
abbrev pub IsFault : Data → SchemaReadError → Type 0
IsFault d (Schema build.NoMemory) = ⊥
IsFault d (Expr k expr.NoMemory) = ⊥
IsFault d (Attr value.NoMemory) = ⊥
IsFault d (Schema e) = Refused d e
IsFault d NoMemory = Unit {0}
IsFault d f = schema_of d ≡ Err f
