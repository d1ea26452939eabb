-- The schema line and the document line of a generated session are read.
use Rattle.std.proofs.Common.{◌≡◌, true, List, [], ◌∷◌, codes, length, Some, Ok, Global, refl, sym, subst, leb-true}
use Rattle.serde_json.specs.Data.{Data, string, array, object, no_items, item, no_members, member}
use Rattle.serde_json.specs.Read.{read}
use Rattle.serde_json.proofs.OnLiterals.{serde_json_on_literals}
use Rattle.pm_value.specs.Reading.{value_at, list_at, pairs_at}
use Rattle.pm_tokens.specs.Tokens.{Token, Open, Close, CodeUnit}
use Rattle.pm_schema.specs.Documents.{documents_of}
use Rattle.pm_schema.specs.Contents.{starts}
use Rattle.pm_node.specs.declared.node.Node.{Node}
use Rattle.pm_node.specs.declared.node.Body.TheVariants.{Children}
use Rattle.pm_node.specs.Documents.{doc_of}
use Rattle.pm_docjson.specs.declared.leaves.LeafContent.TheVariants.{Kept}
use Rattle.std.specs.Str.{chars}
use Rattle.pm_text.specs.Units.{utf16}
use Rattle.pm_docjson.specs.Values.{values_for}
use Rattle.pm_docjson.specs.Reading.{given_in, given_at, attrs_read, mark_of, mark_list, marks_of, text_from, branch_from, node_from, node_of, content_in, content_of, node_list}
use Rattle.pm_schemajson.specs.Reading.{name_of, groups_of, attr_of, attr_list, attrs_of, node_fields, mark_fields, node_list as type_list, mark_list as mark_types, marks_of as mark_types_of, types_of}
use Rattle.pm_schemajson.specs.Contents.{contents_of, schema_of}
use Rattle.pm_schemajson.specs.Views.{types_of_spec}
use Rattle.pm_head.specs.Lines.{json_line}
use Rattle.pm_head.specs.Schemas.{OfValue, SchemaIs, SchemaLine}
use Rattle.pm_head.specs.Documents.{may_be_first, DocIs, DocLine}
use Rattle.pm_gen.specs.Session.{schema_text, document_text}
use Rattle.pm_gen_laws.proofs.Pieces.{all_shown}
use Rattle.pm_gen_laws.proofs.Readable.{line-reads}
use Rattle.pm_gen_laws.proofs.SchemaData.{schema_data}
use Rattle.pm_gen_laws.proofs.Spec.{spec}
use Rattle.pm_gen_laws.proofs.Built.{schema, built}

-- ---- line 1

schema-says : read schema_text ≡ Some schema_data
unfolding serde_json_on_literals
schema-says = refl

pub schema-shown : all_shown schema_text ≡ true
schema-shown = refl

schema-json : json_line schema_text ≡ Ok schema_data
schema-json = line-reads schema_text schema_data schema-shown (leb-true (length schema_text) 1000 refl) schema-says

-- ---- line 2

abbrev text_data : Data
text_data = object (member (codes "text") (string (codes "0123456789")) (member (codes "type") (string (codes "text")) no_members))

abbrev paragraph_data : Data
paragraph_data = object (member (codes "content") (array (item text_data no_items)) (member (codes "type") (string (codes "paragraph")) no_members))

abbrev doc_data : Data
doc_data = object (member (codes "content") (array (item paragraph_data no_items)) (member (codes "type") (string (codes "doc")) no_members))

doc-says : read document_text ≡ Some doc_data
unfolding serde_json_on_literals
doc-says = refl

pub doc-shown : all_shown document_text ≡ true
doc-shown = refl

doc-json : json_line document_text ≡ Ok doc_data
doc-json = line-reads document_text doc_data doc-shown (leb-true (length document_text) 1000 refl) doc-says

abbrev tokens : List Token
tokens =
    Open 1 [] [] ∷ CodeUnit 48 [] ∷ CodeUnit 49 [] ∷ CodeUnit 50 [] ∷ CodeUnit 51 [] ∷ CodeUnit 52 [] ∷ CodeUnit 53 [] ∷ CodeUnit 54 [] ∷ CodeUnit 55 [] ∷ CodeUnit 56 [] ∷ CodeUnit 57 [] ∷ Close ∷ []

abbrev pub top : Node
top = record { kind = 0; attrs = []; marks = []; body = Children tokens }

module _ (g : Global) where
  schema-read : schema_of schema_data ≡ Ok (types_of_spec (spec g))
  unfolding schema_of contents_of types_of mark_types_of mark_types type_list mark_fields node_fields attrs_of attr_list attr_of groups_of name_of value_at list_at pairs_at
  schema-read = refl

  pub schema-line : SchemaLine schema_text (Ok (schema g))
  schema-line = subst (λ v. OfValue SchemaIs v (Ok (schema g))) (sym schema-json) (schema-read, built g)

  doc-read : node_of (spec g) Kept doc_data ≡ Ok top
  unfolding node_of content_in content_of node_list node_from branch_from text_from marks_of mark_list mark_of attrs_read given_at given_in values_for utf16 chars documents_of value_at list_at pairs_at
  doc-read = refl

  doc-valid : may_be_first (schema g) top ≡ true
  unfolding documents_of starts
  doc-valid = refl

  pub doc-line : DocLine (schema g) document_text (Ok (doc_of top))
  doc-line = subst (λ v. OfValue (DocIs (schema g)) v (Ok (doc_of top))) (sym doc-json) (top, doc-read, doc-valid, refl)
