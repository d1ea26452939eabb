-- The first document, which line 2 writes, or which is the top type filled where line 2 is null.
use Rattle.std.specs.Prelude.{◌≡◌, ◌⊎◌, ◌≤◌, ℕ, ◌==◌, Bool, true, false, ◌&&◌, List, length, Some, Result, Ok, Err, is_some, is_none, unwrap_or, MatchBool}
use Rattle.serde_json.specs.Data.{Data}
use Rattle.serde_json.specs.Find.{as_null}
use Rattle.pm_tokens.specs.Tokens.{Doc}
use Rattle.pm_tokens.specs.Schemas.{max_size}
use Rattle.pm_tokens.specs.Scan.{is_whole}
use Rattle.pm_tokens.specs.Faults.{fault}
use Rattle.pm_schema.specs.declared.schema.Schema.{Schema}
use Rattle.pm_schema.specs.declared.spec.SchemaSpec.{SchemaSpec}
use Rattle.pm_schema.specs.Names.{place_of}
use Rattle.pm_schema.specs.Types.{names_of_nodes}
use Rattle.pm_schema.specs.Documents.{documents_of}
use Rattle.pm_node.specs.declared.node.Node.{Node}
use Rattle.pm_node.specs.declared.filled.FillError.{FillError}
use Rattle.pm_node.specs.Trees.{node_tokens}
use Rattle.pm_node.specs.Documents.{doc_of}
use Rattle.pm_node.specs.Filled.{Filling, CanBeMade, IsFillFault}
use Rattle.pm_docjson.specs.declared.fault.DocReadError.{DocReadError}
use Rattle.pm_docjson.specs.declared.leaves.LeafContent.TheVariants.{Kept}
use Rattle.pm_docjson.specs.Reading.{node_of}
use Rattle.pm_head.specs.declared.code.Code.{Code}
use Rattle.pm_head.specs.declared.code.Code.TheVariants.{InvalidDocument}
use Rattle.pm_head.specs.Codes.{node_code, fill_code}
use Rattle.pm_head.specs.Lines.{json_line}
use Rattle.pm_head.specs.Schemas.{OfValue}

-- the type of the top node
abbrev pub top_of : SchemaSpec → ℕ
top_of s = unwrap_or (place_of s.top (names_of_nodes s)) 0

-- the node is the top type filled
pub record IsFilledTop (s : Schema) (n : Node) : Type 0 where
  pub made : CanBeMade s (top_of s.spec)
  pub filled : Filling s (top_of s.spec) (Some (node_tokens n))
  pub small : length (node_tokens n) ≤ max_size (documents_of s.spec)

-- why the top type can't be filled
pub record NotFilled (s : Schema) (code : Code) : Type 0 where
  pub error : FillError
  pub fault : IsFillFault s (top_of s.spec) error
  pub has_code : fill_code error ≡ Some code

abbrev pub FilledTop : Schema → Result Node Code → Type 0
FilledTop s (Ok n) = IsFilledTop s n
FilledTop s (Err code) = NotFilled s code

-- why the value writes no node
pub record NotRead (s : Schema) (d : Data) (code : Code) : Type 0 where
  pub error : DocReadError
  pub fault : node_of s.spec Kept d ≡ Err error
  pub has_code : node_code error ≡ Some code

abbrev pub ReadTop : Schema → Data → Result Node Code → Type 0
ReadTop s d (Ok n) = node_of s.spec Kept d ≡ Ok n
ReadTop s d (Err code) = NotRead s d code

-- the top node, or the code of its fault: it is the one that the value writes, and for null the top type filled
abbrev pub TopNode : Schema → Data → Result Node Code → Type 0
TopNode s d r = MatchBool (is_some (as_null d)) (FilledTop s r) (ReadTop s d r)

-- A node of the top type whose document is valid may be the first document's. The tokens of a node are always whole.
abbrev pub may_be_first : Schema → Node → Bool
may_be_first s n = (n.kind == top_of s.spec) && (is_whole (doc_of n).tokens && is_none (fault (documents_of s.spec) (doc_of n)))

-- the first document with this top node, or that it is not valid or not of the top type
abbrev pub DocFrom : Schema → Node → Result Doc Code → Type 0
DocFrom s n (Ok doc) = (may_be_first s n ≡ true) × (doc ≡ doc_of n)
DocFrom s n (Err code) = (may_be_first s n ≡ false) × (code ≡ InvalidDocument)

-- the first document, or the code of its fault: last of all that it is not valid or not of the top type
abbrev pub DocIs : Schema → Data → Result Doc Code → Type 0
DocIs s d (Ok doc) = (n : Node) × TopNode s d (Ok n) × (may_be_first s n ≡ true) × (doc ≡ doc_of n)
DocIs s d (Err code) = TopNode s d (Err code) ⊎ ((n : Node) × TopNode s d (Ok n) × (may_be_first s n ≡ false) × (code ≡ InvalidDocument))

-- line 2
abbrev pub DocLine : Schema → List ℕ → Result Doc Code → Type 0
DocLine s line r = OfValue (DocIs s) (json_line line) r
