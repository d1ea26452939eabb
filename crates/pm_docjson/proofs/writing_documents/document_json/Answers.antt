use Rattle.std.proofs.Common.{subst}
use Rattle.pm_docjson.proofs.DocsAgain.{ContentAgain, TypeAgain, AttrsAgain, doc-again}
use Rattle.pm_docjson.proofs.writing_documents.document_json.Goals as goal

pub returns-clause-again : goal.returns-clause-again
returns-clause-again c =
    let s = c.args.schema.now.spec in
    let w = c.in_ok-json.ensures in
    doc-again s c.args.document.now (subst (ContentAgain s) c.content.ensures c.in_ok-items.ensures.again) (subst (TypeAgain s) c.kind.ensures w.named)
    (subst (λ k. AttrsAgain s k c.args.document.now.attrs) c.kind.ensures (subst (AttrsAgain s c.kind.result) c.attrs.ensures w.attrs))
