-- Documents of two houses that are the same. What stands under a schema is told by its JSON, for schemas of two houses are two. Lists
-- are the same by `pointwise`: they are as long, and what stands at each place is the same.
use Rattle.std.specs.Prelude.{ℕ, ◌==◌, Bool, ◌&&◌, List}
use Rattle.std.specs.Str.{bytes_eq}
use Rattle.std.specs.Cmp.Lexicographic.{pointwise}
use Rattle.serde_json.specs.Written.{compact_text}
use Rattle.pm_tokens.specs.Tokens.{Doc as Document}
use Rattle.pm_schema.specs.declared.spec.SchemaSpec.{SchemaSpec}
use Rattle.pm_docjson.specs.Writing.{doc_written}
use Rattle.pm_stepjson.specs.Writing.{step_written}
use Rattle.pm_meaning.specs.Steps.{Step}
use Rattle.pm_change.specs.declared.name.Name.{Name}
use Rattle.pm_authority.specs.declared.named.Named.{Named}
use Rattle.pm_archive.specs.declared.archive.Archive.{Archive}

-- the JSON of a document, and that of a step
abbrev pub doc_json : SchemaSpec → Document → List ℕ
doc_json s doc = compact_text (doc_written s doc)

abbrev pub step_json : SchemaSpec → Step → List ℕ
step_json s step = compact_text (step_written s step)

-- the same client's, by its number, with the same serial
abbrev pub same_name : Name → Name → Bool
same_name m n = (m.client == n.client) && (m.serial == n.serial)

-- the same client's step, under the schemas of their documents
abbrev pub same_entry : SchemaSpec → SchemaSpec → Named Step → Named Step → Bool
same_entry s t m n = same_name m.name n.name && bytes_eq (step_json s m.change) (step_json t n.change)

-- the same name, schema's name, first kept version and IDs
abbrev pub same_head : Archive → Archive → Bool
same_head a b = bytes_eq a.name b.name && (bytes_eq a.kind b.kind && ((a.from == b.from) && pointwise bytes_eq a.ids b.ids))

-- the same first document, document and log
abbrev pub same_content : SchemaSpec → SchemaSpec → Archive → Archive → Bool
same_content s t a b =
    bytes_eq (doc_json s a.first) (doc_json t b.first)
    && (bytes_eq (doc_json s a.doc) (doc_json t b.doc) && pointwise (same_entry s t) a.log b.log)

abbrev pub same_archive : Archive → Archive → Bool
same_archive a b = same_head a b && same_content a.schema.spec b.schema.spec a b
