use Rattle.std.proofs.Common.{◌≡◌, true, subst}
use Rattle.pm_tokens.specs.Scan.{is_whole}
use Rattle.pm_tokens.specs.Faults.{fault}
use Rattle.pm_tokens.proofs.ScanLaws.{of-whole}
use Rattle.pm_tokens.proofs.BalanceLaws.{balanced-whole}
use Rattle.pm_schema.specs.Documents.{documents_of}
use Rattle.pm_node.specs.Checks.{Checks}
use Rattle.pm_node.proofs.DocLaws.{same-doc}
use Rattle.pm_node.proofs.ValidAnswers.{valid-answer, invalid-answer}
use Rattle.pm_node.proofs.document.Document.check.Goals as goal

pub returns-clause-first : goal.returns-clause-first
returns-clause-first c =
    let s = documents_of c.args.schema.now.spec in
    subst (λ d. Checks c.content_fault.result (fault s d)) (same-doc c.top.result.now _ _ c.top.ensures c.content-content.ensures) c.content_fault.ensures

pub returns-clause-valid : goal.returns-clause-valid
returns-clause-valid c =
    let s = documents_of c.args.schema.now.spec in
    let d = c.args.self.now in
    let whole : is_whole d.tokens ≡ true = subst (λ ts. is_whole ts ≡ true) c.content-content.ensures (of-whole _ (balanced-whole c.size.ensures.whole)) in
    valid-answer s d c.content_fault.result whole (subst (λ d. Checks c.content_fault.result (fault s d)) (same-doc c.top.result.now _ _ c.top.ensures c.content-content.ensures) c.content_fault.ensures)

pub returns-clause-invalid : goal.returns-clause-invalid
returns-clause-invalid c =
    let s = documents_of c.args.schema.now.spec in
    invalid-answer s c.args.self.now c.content_fault.result (subst (λ d. Checks c.content_fault.result (fault s d)) (same-doc c.top.result.now _ _ c.top.ensures c.content-content.ensures) c.content_fault.ensures)
