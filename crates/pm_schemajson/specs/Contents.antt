-- The content expressions of the types.
use Rattle.std.specs.Prelude.{ℕ, ◌+◌, List, [], ◌∷◌, map, Result, Ok, Err}
use Rattle.serde_json.specs.Data.{Data}
use Rattle.pm_list.specs.Readings.{◌>>=◌}
use Rattle.pm_auto.specs.Tree.{Tree}
use Rattle.pm_expr.specs.declared.error.ExprError.{ExprError}
use Rattle.pm_expr.specs.Names.{Named}
use Rattle.pm_expr.specs.Reader.{expr_of}
use Rattle.pm_schemajson.specs.declared.error.SchemaReadError.{SchemaReadError}
use Rattle.pm_schemajson.specs.Carried.{expr_carried}
use Rattle.pm_schemajson.specs.Types.{NodeType, Types}
use Rattle.pm_schemajson.specs.Reading.{types_of}

-- what the expressions name: the types and their groups
abbrev pub named : {C : Type 0} → NodeType C → Named
named n = record { name = n.name; groups = n.groups }

-- the type with this content in place of its text
abbrev pub with_content : NodeType (List ℕ) → Tree → NodeType Tree
with_content n e = record { name = n.name; content = e; groups = n.groups; marks = n.marks; inline = n.inline; atom = n.atom; attrs = n.attrs }

-- the content of the type of this number, or its fault
abbrev pub content_of : (kind : ℕ) → Result Tree ExprError → Result Tree SchemaReadError
content_of kind (Ok e) = Ok e
content_of kind (Err f) = Err (expr_carried kind f)

-- the content of each type is read by the grammar of expressions, from the first type on, which has the number kind
unfoldable pub contents_of : List Named → (kind : ℕ) → List (NodeType (List ℕ)) → Result (List (NodeType Tree)) SchemaReadError
contents_of names kind [] = Ok []
contents_of names kind (n ∷ ns) = do
  content ← content_of kind (expr_of names n.content)
  rest ← contents_of names (kind + 1) ns
  Ok (with_content n content ∷ rest)

-- The types that a JSON value writes: first all fields are read, and then the content expressions.
unfoldable pub schema_of : Data → Result (Types Tree) SchemaReadError
schema_of d = do
  types ← types_of d
  nodes ← contents_of (map named types.nodes) 0 types.nodes
  Ok (record { nodes = nodes; marks = types.marks; top = types.top; version = types.version })
