-- The types that a schema's spec gives, by their places.
use Rattle.std.specs.Prelude.{ℕ, Bool, true, false, ◌||◌, ◌==◌, List, [], map, None, is_none, slice_index_or, codes}
use Rattle.std.specs.Str.{bytes_eq}
use Rattle.pm_auto.specs.declared.expr.Expr.{Expr, Empty}
use Rattle.pm_value.specs.Plain.{Plain}
use Rattle.pm_tokens.specs.Schemas.{Declared, fit_declared}
use Rattle.pm_schema.specs.declared.spec.AttrSpec.{AttrSpec}
use Rattle.pm_schema.specs.declared.spec.NodeSpec.{NodeSpec}
use Rattle.pm_schema.specs.declared.spec.MarkSpec.{MarkSpec}
use Rattle.pm_schema.specs.declared.spec.SchemaSpec.{SchemaSpec}

abbrev pub node_names : List NodeSpec → List (List ℕ)
node_names nodes = map (λ n. n.name) nodes

abbrev pub mark_names : List MarkSpec → List (List ℕ)
mark_names marks = map (λ m. m.name) marks

abbrev pub names_of_nodes : SchemaSpec → List (List ℕ)
names_of_nodes s = node_names s.nodes

abbrev pub names_of_marks : SchemaSpec → List (List ℕ)
names_of_marks s = mark_names s.marks

-- a type beyond the last: it has no name, no content and no attribute
abbrev pub no_node : NodeSpec
no_node = record { name = []; content = Empty; groups = []; marks = None; inline = false; atom = false; attrs = [] }

abbrev pub no_mark : MarkSpec
no_mark = record { name = []; attrs = []; inclusive = false; excludes = None; groups = [] }

abbrev pub node_at : SchemaSpec → ℕ → NodeSpec
node_at s k = slice_index_or s.nodes k no_node

abbrev pub mark_at : SchemaSpec → ℕ → MarkSpec
mark_at s m = slice_index_or s.marks m no_mark

-- it is the type of texts
abbrev pub is_text : NodeSpec → Bool
is_text n = bytes_eq (codes "text") n.name

-- the expression has no parts, so the type is a leaf
abbrev pub is_empty : Expr → Bool
is_empty Empty = true
is_empty _ = false

abbrev pub is_leaf : NodeSpec → Bool
is_leaf n = is_empty n.content

-- the type of texts is inline in any case
abbrev pub is_inline : NodeSpec → Bool
is_inline n = is_text n || n.inline

-- a leaf is an atom in any case
abbrev pub is_atom : NodeSpec → Bool
is_atom n = is_leaf n || n.atom

-- the type says of a mark whether text typed at its end has it too
abbrev pub is_inclusive : MarkSpec → Bool
is_inclusive m = m.inclusive

-- an attribute without default
abbrev pub is_required : AttrSpec → Bool
is_required a = is_none a.default

-- the attribute as documents see it
abbrev pub declared : AttrSpec → Declared
declared a = record { name = a.name; kinds = a.validate }

-- the values are one for each attribute that the type declares, each of depth at most 4 and of a kind that is named
abbrev pub fit_attrs : List AttrSpec → List Plain → Bool
fit_attrs attrs values = fit_declared (map declared attrs) values

-- the version is 1 or 2
abbrev pub is_version : ℕ → Bool
is_version v = (v == 1) || (v == 2)
