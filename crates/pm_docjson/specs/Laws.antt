-- What the laws of reading say.
use Rattle.std.specs.Prelude.{◌≡◌, Bool, true, List, [], ◌∷◌, ◌&&◌, not, Ok}
use Rattle.serde_json.specs.Data.{Data, Items}
use Rattle.pm_value.specs.Plain.{Plain}
use Rattle.pm_marks.specs.declared.mark.Mark.{Mark}
use Rattle.pm_tokens.specs.Tokens.{Token, Open, Close, Leaf, CodeUnit}
use Rattle.pm_schema.specs.declared.spec.SchemaSpec.{SchemaSpec}
use Rattle.pm_schema.specs.Documents.{documents_of}
use Rattle.pm_node.specs.Trees.{node_tokens}
use Rattle.pm_node.specs.declared.node.Node.{Node}
use Rattle.pm_docjson.specs.declared.leaves.LeafContent.TheVariants.{Kept, Refused}
use Rattle.pm_docjson.specs.Reading.{mark_of, node_of, nodes_of}
use Rattle.pm_docjson.specs.Writable.{mark_fits, IsWritable, AreWritable}
use Rattle.pm_docjson.specs.Writing.{as_read}

-- no open is of a leaf type
abbrev pub has_no_filled_leaf : SchemaSpec → List Token → Bool
has_no_filled_leaf s [] = true
has_no_filled_leaf s (Open k a m ∷ ts) = not ((documents_of s).is_leaf k) && has_no_filled_leaf s ts
has_no_filled_leaf s (Close ∷ ts) = has_no_filled_leaf s ts
has_no_filled_leaf s (Leaf k a m ∷ ts) = has_no_filled_leaf s ts
has_no_filled_leaf s (CodeUnit u m ∷ ts) = has_no_filled_leaf s ts

-- the mark that the value is can be written
abbrev pub ReadMarkFits : SchemaSpec → Data → Type 0
ReadMarkFits s d = (m : Mark (List Plain)) → mark_of s d ≡ Ok m → mark_fits s m ≡ true

-- The node that the value is can be written, and is one that is read back as itself. Where content of leaf types is kept, no
-- node of a leaf type may have content.
pub record ReadNodeComesBack (s : SchemaSpec) (d : Data) : Type 0 where
  pub refused : (n : Node) → node_of s Refused d ≡ Ok n → IsWritable s n × (as_read s n ≡ n)
  pub kept : (n : Node) → node_of s Kept d ≡ Ok n → has_no_filled_leaf s (node_tokens n) ≡ true → IsWritable s n × (as_read s n ≡ n)

-- the nodes that the list is can be written
abbrev pub ReadNodesAreWritable : SchemaSpec → Items → Type 0
ReadNodesAreWritable s ds = (ts : List Token) → nodes_of s Refused ds ≡ Ok ts → AreWritable s ts
