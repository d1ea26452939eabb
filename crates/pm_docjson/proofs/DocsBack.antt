-- The text of a document is read back.
use Rattle.std.proofs.Common.{◌≡◌, ◌≤◌, ◌==◌, false, String, Global, string_bytes, arith}
use Rattle.std.specs.Prelude.{Some, Ok, Result, Err, IfOk}
use Rattle.std.specs.declared.alloc.AllocError.{AllocError}
use Rattle.serde_json.specs.Data.{depth}
use Rattle.serde_json.specs.Read.{read, max_depth}
use Rattle.pm_tokens.specs.Tokens.{Doc}
use Rattle.pm_tokens.specs.Faults.{Valid}
use Rattle.pm_schema.specs.declared.spec.SchemaSpec.{SchemaSpec}
use Rattle.pm_schema.specs.Documents.{documents_of}
use Rattle.pm_docjson.specs.declared.leaves.LeafContent.TheVariants.{Kept}
use Rattle.pm_docjson.specs.Documents.{top_of, ComesBack}
use Rattle.pm_docjson.specs.Reading.{node_of}
use Rattle.pm_docjson.specs.Writing.{doc_written}
use Rattle.pm_docjson.proofs.DocsAgain.{top-doc}
use Rattle.pm_docjson.proofs.Levels.{valid-low}

abbrev NoText : SchemaSpec → Doc → Type 0
NoText s d = (d.kind == (documents_of s).text) ≡ false

pub reads-back : (s : SchemaSpec) (d : Doc) (r : Result (String Global) AllocError) → IfOk r (λ t. depth (doc_written s d) ≤ max_depth → read (string_bytes t) ≡ Some (doc_written s d))
    → (Valid (documents_of s) d → NoText s d → node_of s Kept (doc_written s d) ≡ Ok (top_of s d)) → IfOk r (λ t. Valid (documents_of s) d → NoText s d → ComesBack s d (string_bytes t))
reads-back s d (Ok t) reads again = λ v other.
    let low = valid-low s d v in
    record { value = reads (omega (arith, low)); node = again v other; document = top-doc s d }
reads-back s d (Err e) reads again = tt
