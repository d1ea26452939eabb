-- The version and the types that a JSON value lists, or its first fault: fields in this order, lists from the front, `attrs`
-- in byte order of the names, and all that is in a field before the next one.
use Rattle.std.specs.Prelude.{ℕ, ◌+◌, List, [], ◌∷◌, codes, true, false, Option, Some, None, Result, Ok, Err, if◌then◌else◌, option_and_then}
use Rattle.serde_json.specs.Data.{Data, Items, no_items, item, Members, no_members, member}
use Rattle.serde_json.specs.Find.{get, as_str, as_array, as_object}
use Rattle.pm_list.specs.Readings.{◌>>=◌}
use Rattle.pm_value.specs.Plain.{Plain}
use Rattle.pm_value.specs.Reading.{value_of}
use Rattle.pm_value.specs.declared.fault.ValueError.{ValueError}
use Rattle.pm_schemajson.specs.declared.error.Field.{Field}
use Rattle.pm_schemajson.specs.declared.error.Field.TheVariants as the
use Rattle.pm_schemajson.specs.declared.error.SchemaReadError.{SchemaReadError}
use Rattle.pm_schemajson.specs.declared.error.SchemaReadError.TheVariants.{Name}
use Rattle.pm_schemajson.specs.Carried.{value_carried}
use Rattle.pm_schemajson.specs.Types.{Attribute, NodeType, MarkType, Types}
use Rattle.pm_schemajson.specs.Words.{is_name, names_in}
use Rattle.pm_schemajson.specs.Fields.{field, of_kind, text_if, text_or, truth_or}
use Rattle.pm_schemajson.specs.Versions.{version_of, validate_of, with_kept}

-- a well-formed name
unfoldable pub name_of : Data → Result (List ℕ) SchemaReadError
name_of d = do
  name ← of_kind the.Name (option_and_then as_str (get (codes "name") d))
  if is_name name then Ok name else Err (Name the.Name)

-- names, or a fault of the field that lists them
abbrev pub well_formed : Field → Option (List (List ℕ)) → Result (List (List ℕ)) SchemaReadError
well_formed f None = Err (Name f)
well_formed f (Some names) = Ok names

-- the groups: well-formed names with blanks between
unfoldable pub groups_of : Data → Result (List (List ℕ)) SchemaReadError
groups_of d = do
  text ← text_or [] the.Group (field (codes "group") d)
  well_formed the.Group (names_in text)

abbrev pub default_from : Result Plain ValueError → Result (Option Plain) SchemaReadError
default_from (Ok v) = Ok (Some v)
default_from (Err e) = Err (value_carried e)

-- a default, which may be null
abbrev pub default_of : Option Data → Result (Option Plain) SchemaReadError
default_of None = Ok None
default_of (Some d) = default_from (value_of d)

-- an attribute, which has this place among those of its type: its default, then the kinds that it names
unfoldable pub attr_of : (version at : ℕ) → List ℕ → Data → Result Attribute SchemaReadError
attr_of version at k d = do
  members ← of_kind the.Attrs (as_object d)
  default ← default_of (get (codes "default") d)
  validate ← validate_of version (field (codes "validate") d)
  with_kept at (record { name = k; default = default; validate = validate })

-- the attributes from the one of this place on
unfoldable pub attr_list : (version at : ℕ) → Members → Result (List Attribute) SchemaReadError
attr_list version at no_members = Ok []
attr_list version at (member k d ms) = do
  first ← attr_of version at k d
  rest ← attr_list version (at + 1) ms
  Ok (first ∷ rest)

unfoldable pub attrs_of : (version : ℕ) → Option Data → Result (List Attribute) SchemaReadError
attrs_of version None = Ok []
attrs_of version (Some d) = of_kind the.Attrs (as_object d) >>= attr_list version 0

-- the fields of a node type
unfoldable pub node_fields : (version : ℕ) → Data → Result (NodeType (List ℕ)) SchemaReadError
node_fields version d = do
  name ← name_of d
  content ← text_or [] the.Content (field (codes "content") d)
  groups ← groups_of d
  marks ← text_if the.Marks (field (codes "marks") d)
  inline ← truth_or false the.Inline (field (codes "inline") d)
  atom ← truth_or false the.Atom (field (codes "atom") d)
  attrs ← attrs_of version (field (codes "attrs") d)
  Ok (record { name = name; content = content; groups = groups; marks = marks; inline = inline; atom = atom; attrs = attrs })

-- the fields of a mark type
unfoldable pub mark_fields : (version : ℕ) → Data → Result MarkType SchemaReadError
mark_fields version d = do
  name ← name_of d
  attrs ← attrs_of version (field (codes "attrs") d)
  inclusive ← truth_or true the.Inclusive (field (codes "inclusive") d)
  excludes ← text_if the.Excludes (field (codes "excludes") d)
  groups ← groups_of d
  Ok (record { name = name; attrs = attrs; inclusive = inclusive; excludes = excludes; groups = groups })

unfoldable pub node_list : (version : ℕ) → Items → Result (List (NodeType (List ℕ))) SchemaReadError
node_list version no_items = Ok []
node_list version (item d ds) = do
  members ← of_kind the.Nodes (as_object d)
  first ← node_fields version d
  rest ← node_list version ds
  Ok (first ∷ rest)

unfoldable pub mark_list : (version : ℕ) → Items → Result (List MarkType) SchemaReadError
mark_list version no_items = Ok []
mark_list version (item d ds) = do
  members ← of_kind the.Marks (as_object d)
  first ← mark_fields version d
  rest ← mark_list version ds
  Ok (first ∷ rest)

-- the mark types, none where the field is absent
unfoldable pub marks_of : (version : ℕ) → Option Data → Result (List MarkType) SchemaReadError
marks_of version None = Ok []
marks_of version (Some d) = of_kind the.Marks (as_array d) >>= mark_list version

-- the types, with content as text
unfoldable pub types_of : Data → Result (Types (List ℕ)) SchemaReadError
types_of d = do
  version ← version_of (field (codes "version") d)
  items ← of_kind the.Nodes (option_and_then as_array (get (codes "nodes") d))
  nodes ← node_list version items
  marks ← marks_of version (field (codes "marks") d)
  top ← text_or (codes "doc") the.TopNode (field (codes "topNode") d)
  Ok (record { nodes = nodes; marks = marks; top = top; version = version })
