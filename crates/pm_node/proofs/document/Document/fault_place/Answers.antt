use Rattle.std.proofs.Common.{◌≡◌, subst, IfOk}
use Rattle.pm_tokens.specs.Faults.{fault_place}
use Rattle.pm_schema.specs.Documents.{documents_of}
use Rattle.pm_node.proofs.DocLaws.{same-doc}
use Rattle.pm_node.proofs.document.Document.fault_place.Goals as goal

pub returns : goal.returns
returns c =
    let s = documents_of c.args.schema.now.spec in
    subst (λ d. IfOk c.content_place.result (λ p. p ≡ fault_place s d)) (same-doc c.top.result.now _ _ c.top.ensures c.content.ensures) c.content_place.ensures
