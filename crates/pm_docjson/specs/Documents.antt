-- What the text of a document is read back as.
use Rattle.std.specs.Prelude.{◌≡◌, ℕ, List, Some, Ok}
use Rattle.serde_json.specs.Read.{read}
use Rattle.pm_tokens.specs.Tokens.{Doc}
use Rattle.pm_schema.specs.declared.spec.SchemaSpec.{SchemaSpec}
use Rattle.pm_node.specs.Documents.{doc_of}
use Rattle.pm_node.specs.declared.node.Node.{Node}
use Rattle.pm_docjson.specs.declared.leaves.LeafContent.TheVariants.{Kept}
use Rattle.pm_docjson.specs.Reading.{body_of, node_of}
use Rattle.pm_docjson.specs.Writing.{doc_written}

-- the top node of the document, a leaf where its type is a leaf type and there is no content
abbrev pub top_of : SchemaSpec → Doc → Node
top_of s d = record { kind = d.kind; attrs = d.attrs; marks = d.marks; body = body_of s d.kind d.tokens }

-- The text is that of a JSON value, which is the JSON value of the document and is read as its top node; the document with
-- this top node is the document.
pub record ComesBack (s : SchemaSpec) (d : Doc) (text : List ℕ) : Type 0 where
  pub value : read text ≡ Some (doc_written s d)
  pub node : node_of s Kept (doc_written s d) ≡ Ok (top_of s d)
  pub document : doc_of (top_of s d) ≡ d
