-- The node or the mark that a JSON value is, or its first fault. Fields are read in the order type, text, attrs, marks,
-- content, each with all that is in it before the next.
use Rattle.std.specs.Prelude.{ℕ, ◌==◌, ◌^◌, ◌-◌, Bool, true, false, ◌&&◌, nat_lt, List, [], ◌∷◌, ◌++◌, length, codes, Option, Some, None, Result, Ok, Err, if◌then◌else◌}
use Rattle.std.specs.Ordering.{nat_cmp, match_ordering}
use Rattle.std.specs.Cmp.Lexicographic.{slice_cmp}
use Rattle.serde_json.specs.Data.{Data, null, boolean, number, string, array, object, Items, no_items, item, Members, no_members, member}
use Rattle.serde_json.specs.Find.{as_array, as_object}
use Rattle.pm_list.specs.Readings.{◌>>=◌, or_fault}
use Rattle.pm_text.specs.Units.{utf16}
use Rattle.pm_value.specs.Plain.{Plain}
use Rattle.pm_value.specs.Reading.{value_of}
use Rattle.pm_value.specs.declared.fault.ValueError.{ValueError}
use Rattle.pm_marks.specs.declared.mark.Mark.{Mark}
use Rattle.pm_tokens.specs.Tokens.{Marks, Token}
use Rattle.pm_tokens.specs.Marks.{is_set}
use Rattle.pm_schema.specs.declared.spec.SchemaSpec.{SchemaSpec}
use Rattle.pm_schema.specs.declared.spec.AttrSpec.{AttrSpec}
use Rattle.pm_schema.specs.Names.{place_of}
use Rattle.pm_schema.specs.Types.{names_of_nodes, names_of_marks, node_at, mark_at}
use Rattle.pm_schema.specs.Documents.{documents_of}
use Rattle.pm_node.specs.Trees.{node_tokens}
use Rattle.pm_node.specs.declared.node.Node.{Node}
use Rattle.pm_node.specs.declared.node.Body.{Body}
use Rattle.pm_node.specs.declared.node.Body.TheVariants.{Text, Leaf, Children}
use Rattle.pm_docjson.specs.declared.leaves.LeafContent.{LeafContent}
use Rattle.pm_docjson.specs.declared.leaves.LeafContent.TheVariants.{Kept, Refused}
use Rattle.pm_docjson.specs.declared.fault.DocReadError.{DocReadError}
use Rattle.pm_docjson.specs.declared.fault.DocReadError.TheVariants.{Shape, UnknownType, Attr, EmptyText, NotASet, Large}
use Rattle.pm_docjson.specs.Fields.{field, text_at}
use Rattle.pm_docjson.specs.Values.{Given, values_for}

-- ---- attributes

-- any fault of an attribute's value is a fault of the attribute
abbrev pub as_attr : {A : Type 0} → Result A ValueError → Result A DocReadError
as_attr (Ok v) = Ok v
as_attr (Err e) = Err Attr

-- the values of an object, each under its name
unfoldable pub given_in : Members → Result Given DocReadError
given_in no_members = Ok []
given_in (member k d ms) = do
  value ← as_attr (value_of d)
  rest ← given_in ms
  Ok ((k, value) ∷ rest)

-- the values that the field gives, which may be absent
unfoldable pub given_at : Option Data → Result Given DocReadError
given_at None = Ok []
given_at (Some d) = or_fault Shape (as_object d) >>= given_in

-- the attributes of a type that declares these, where the field gives their values
unfoldable pub attrs_read : List AttrSpec → Option Data → Result (List Plain) DocReadError
attrs_read attrs d = do
  given ← given_at d
  or_fault Attr (values_for attrs given)

-- ---- texts and lists of nodes

-- a text that is not empty
abbrev pub filled : List ℕ → Result (List ℕ) DocReadError
filled text = if length text == 0 then Err EmptyText else Ok text

-- content of a node of a leaf type is a fault
abbrev pub refuses : LeafContent → Bool
refuses Kept = false
refuses Refused = true

-- a list without nodes
abbrev pub no_nodes : Items → Result (List Token) DocReadError
no_nodes no_items = Ok []
no_nodes (item d ds) = Err Shape

-- content that the field gives, which may be absent and has no nodes
abbrev pub none_at : Option Data → Result (List Token) DocReadError
none_at None = Ok []
none_at (Some d) = or_fault Shape (as_array d) >>= no_nodes

-- the tokens of a list of nodes, which may be 4,294,967,295 at most
abbrev pub bounded : List Token → Result (List Token) DocReadError
bounded ts = if nat_lt (2 ^ 32 - 1) (length ts) then Err Large else Ok ts

module _ (s : SchemaSpec) where
  -- ---- marks

  unfoldable pub mark_of : Data → Result (Mark (List Plain)) DocReadError
  mark_of d = do
    name ← text_at (codes "type") d
    kind ← or_fault UnknownType (place_of name (names_of_marks s))
    attrs ← attrs_read (mark_at s kind).attrs (field (codes "attrs") d)
    Ok (record { kind = kind; attrs = attrs })

  unfoldable pub mark_list : Items → Result Marks DocReadError
  mark_list no_items = Ok []
  mark_list (item d ds) = do
    first ← mark_of d
    rest ← mark_list ds
    Ok (first ∷ rest)

  -- marks that are a set
  abbrev pub as_set : Marks → Result Marks DocReadError
  as_set marks = if is_set (documents_of s) marks then Ok marks else Err NotASet

  -- the marks that the field gives, which may be absent
  unfoldable pub marks_of : Option Data → Result Marks DocReadError
  marks_of None = Ok []
  marks_of (Some d) = do
    items ← or_fault Shape (as_array d)
    marks ← mark_list items
    as_set marks

  -- ---- nodes

  -- a text as its units, whose content is not read
  unfoldable pub text_from : Data → Result Node DocReadError
  text_from d = do
    text ← text_at (codes "text") d
    bytes ← filled text
    attrs ← attrs_read (node_at s (documents_of s).text).attrs (field (codes "attrs") d)
    marks ← marks_of (field (codes "marks") d)
    Ok (record { kind = (documents_of s).text; attrs = attrs; marks = marks; body = Text (utf16 bytes) })

  -- a node of a leaf type without content is a leaf
  abbrev pub body_of : ℕ → List Token → Body
  body_of kind [] = if (documents_of s).is_leaf kind then Leaf else Children []
  body_of kind (t ∷ ts) = Children (t ∷ ts)

  -- any other node of a type, whose content is read last
  unfoldable pub branch_from : ℕ → Data → Result (List Token) DocReadError → Result Node DocReadError
  branch_from kind d content = do
    attrs ← attrs_read (node_at s kind).attrs (field (codes "attrs") d)
    marks ← marks_of (field (codes "marks") d)
    tokens ← content
    Ok (record { kind = kind; attrs = attrs; marks = marks; body = body_of kind tokens })

-- Nodes with what they hold. Content that a leaf type has all the same is kept, so that a check of the document finds it, or
-- is a fault before what is in it is read.
module _ (s : SchemaSpec) (leaves : LeafContent) where
  -- the content that a node of the type has, where the field is read as `content`
  abbrev pub content_for : ℕ → Option Data → Result (List Token) DocReadError → Result (List Token) DocReadError
  content_for kind d content = if refuses leaves && (documents_of s).is_leaf kind then none_at d else content

  unfoldable pub node_from : Data → Result (List Token) DocReadError → Result Node DocReadError
  node_from d content = do
    name ← text_at (codes "type") d
    kind ← or_fault UnknownType (place_of name (names_of_nodes s))
    if kind == (documents_of s).text then text_from s d else branch_from s kind d (content_for kind (field (codes "content") d) content)

  unfoldable mutual
    pub node_of : Data → Result Node DocReadError
    node_of null = Err Shape
    node_of (boolean b) = Err Shape
    node_of (number n) = Err Shape
    node_of (string t) = Err Shape
    node_of (array ds) = Err Shape
    node_of (object ms) = node_from (object ms) (content_in ms)

    -- the value of the member content, which may be absent
    pub content_in : Members → Result (List Token) DocReadError
    content_in no_members = Ok []
    content_in (member k d ms) = match_ordering (slice_cmp nat_cmp (codes "content") k) (content_in ms) (content_of d) (content_in ms)

    -- a list of nodes, or null
    pub content_of : Data → Result (List Token) DocReadError
    content_of null = Ok []
    content_of (boolean b) = Err Shape
    content_of (number n) = Err Shape
    content_of (string t) = Err Shape
    content_of (array ds) = node_list ds >>= bounded
    content_of (object ms) = Err Shape

    -- The tokens of the nodes, one after another: neighbouring texts with equal marks are one text.
    pub node_list : Items → Result (List Token) DocReadError
    node_list no_items = Ok []
    node_list (item d ds) = do
      first ← node_of d
      rest ← node_list ds
      Ok (node_tokens first ++ rest)

  -- a list of nodes that are not too many tokens
  abbrev pub nodes_of : Items → Result (List Token) DocReadError
  nodes_of ds = node_list ds >>= bounded

  -- the content, as the field of that name gives it
  abbrev pub content_at : Option Data → Result (List Token) DocReadError
  content_at None = Ok []
  content_at (Some d) = or_fault Shape (as_array d) >>= nodes_of
