-- The JSON value of a node and of a mark, with its members in byte order of their keys.
use Rattle.std.specs.Prelude.{ℕ, List, [], ◌∷◌, map, codes}
use Rattle.serde_json.specs.Data.{Data, string, array, object, Items, no_items, item, Members, no_members, member}
use Rattle.serde_json.specs.View.{items_of}
use Rattle.pm_text.specs.Units.{utf8}
use Rattle.pm_value.specs.Plain.{Plain, fields, plains_of}
use Rattle.pm_value.specs.Writing.{written}
use Rattle.pm_marks.specs.declared.mark.Mark.{Mark}
use Rattle.pm_tokens.specs.Tokens.{Doc, Marks, Token}
use Rattle.pm_schema.specs.declared.spec.SchemaSpec.{SchemaSpec}
use Rattle.pm_schema.specs.Types.{node_at, mark_at}
use Rattle.pm_schema.specs.Documents.{documents_of}
use Rattle.pm_node.specs.declared.node.Node.{Node}
use Rattle.pm_node.specs.declared.node.Body.{Body}
use Rattle.pm_node.specs.declared.node.Body.TheVariants.{Text, Leaf, Children}
use Rattle.pm_docjson.specs.Trees.{Tree, text, branch, Trees, none, tree, trees_of}
use Rattle.pm_docjson.specs.Values.{keys}

-- the member `type` alone
abbrev pub typed : List ℕ → Members
typed name = member (codes "type") (string name) no_members

-- the attributes of a type with these names before other members; none where the type has no attribute
abbrev pub with_attrs : List (List ℕ) → List Plain → Members → Members
with_attrs [] values ms = ms
with_attrs (k ∷ ks) values ms = member (codes "attrs") (written (fields (k ∷ ks) (plains_of values))) ms

-- content before other members, where it is not empty
abbrev pub with_content : Items → Members → Members
with_content no_items ms = ms
with_content (item d ds) ms = member (codes "content") (array (item d ds)) ms

-- marks before other members, where there are some
abbrev pub with_marks : Items → Members → Members
with_marks no_items ms = ms
with_marks (item d ds) ms = member (codes "marks") (array (item d ds)) ms

module _ (s : SchemaSpec) where
  abbrev pub mark_written : Mark (List Plain) → Data
  mark_written m = object (with_attrs (keys (mark_at s m.kind).attrs) m.attrs (typed (mark_at s m.kind).name))

  abbrev pub marks_written : Marks → Items
  marks_written ms = items_of (map mark_written ms)

  abbrev pub text_written : List ℕ → Marks → Data
  text_written units marks = object (with_marks (marks_written marks) (member (codes "text") (string (utf8 units)) (typed (node_at s (documents_of s).text).name)))

  abbrev pub branch_written : ℕ → List Plain → Marks → Items → Data
  branch_written kind attrs marks content = object (with_attrs (keys (node_at s kind).attrs) attrs (with_content content (with_marks (marks_written marks) (typed (node_at s kind).name))))

  unfoldable mutual
    pub tree_written : Tree → Data
    tree_written (text units marks) = text_written units marks
    tree_written (branch kind attrs marks inner) = branch_written kind attrs marks (trees_written inner)

    pub trees_written : Trees → Items
    trees_written none = no_items
    trees_written (tree t ts) = item (tree_written t) (trees_written ts)

  -- the nodes that the tokens are
  abbrev pub nodes_written : List Token → Items
  nodes_written ts = trees_written (trees_of ts)

  abbrev pub body_written : ℕ → List Plain → Marks → Body → Data
  body_written kind attrs marks (Text units) = text_written units marks
  body_written kind attrs marks Leaf = branch_written kind attrs marks no_items
  body_written kind attrs marks (Children ts) = branch_written kind attrs marks (nodes_written ts)

  abbrev pub node_written : Node → Data
  node_written n = body_written n.kind n.attrs n.marks n.body

  -- a document: its top node, with the nodes that its tokens are
  abbrev pub doc_written : Doc → Data
  doc_written d = branch_written d.kind d.attrs d.marks (nodes_written d.tokens)

  -- a node as it is read back: a text is one of the type of texts, which has no attributes, whatever the node's own type says
  abbrev pub as_read_by : Node → Body → Node
  as_read_by n (Text units) = record { kind = (documents_of s).text; attrs = []; marks = n.marks; body = Text units }
  as_read_by n Leaf = record { kind = n.kind; attrs = n.attrs; marks = n.marks; body = Leaf }
  as_read_by n (Children ts) = record { kind = n.kind; attrs = n.attrs; marks = n.marks; body = Children ts }

  abbrev pub as_read : Node → Node
  as_read n = as_read_by n n.body
