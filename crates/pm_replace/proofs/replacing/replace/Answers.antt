use Rattle.std.proofs.Common.{subst, sym, ◌∙◌}
use Rattle.pm_tokens.specs.Faults.{Valid}
use Rattle.pm_change.specs.Failing.{Answers}
use Rattle.pm_meaning.specs.Steps.{Replace}
use Rattle.pm_meaning.specs.Outcomes.{made, outcome}
use Rattle.pm_schema.specs.Documents.{documents_of}
use Rattle.pm_node.proofs.DocLaws.{same-doc}
use Rattle.std.specs.Prelude.{◌≡◌, false, Ok, Err}
use Rattle.std.proofs.lemmas.Result.{err_from_is_err_and}
use Rattle.pm_replace.proofs.OutcomeAnswers.{known-answers, unknown-answers, failed-answers}
use Rattle.pm_replace.proofs.replacing.replace.Goals as goal

pub replace_in-requires : goal.replace_in-requires
replace_in-requires c = subst (Valid (documents_of c.args.schema.now.spec)) (sym (same-doc c.top-top.result.now _ _ c.top-top.ensures c.content-content.ensures)) c.requires

pub returns : goal.returns
returns c =
    let s = documents_of c.args.schema.now.spec in
    let step = Replace c.args.from c.args.to c.args.slice.now false in
    known-answers s step c.args.doc.now c.in_ok-next.next (sym c.in_ok-known.ensures ∙ c.if-not-known.false)
    (subst (λ d. made s step d ≡ Ok c.in_ok-next.next) (same-doc c.top-top.result.now _ _ c.top-top.ensures c.content-content.ensures) c.in_ok-next.ensures)

pub returns-then-not-known : goal.returns-then-not-known
returns-then-not-known c =
    let s = documents_of c.args.schema.now.spec in
    let step = Replace c.args.from c.args.to c.args.slice.now false in
    unknown-answers s step c.args.doc.now c.in_ok-next.next (sym c.in_ok-known.ensures ∙ c.if-not-known.true)
    (subst (λ d. made s step d ≡ Ok c.in_ok-next.next) (same-doc c.top-top.result.now _ _ c.top-top.ensures c.content-content.ensures) c.in_ok-next.ensures)

pub returns-in_err-next : goal.returns-in_err-next
returns-in_err-next c =
    let s = documents_of c.args.schema.now.spec in
    let step = Replace c.args.from c.args.to c.args.slice.now false in
    let p = err_from_is_err_and c.from_residual.result c.from_residual.ensures.1 in
    let answers : Answers (outcome s step c.args.doc.now) (Err c.in_err-next.field-0.0) =
    failed-answers s step c.args.doc.now c.in_err-next.field-0.0
    (subst (λ d. Answers (made s step d) (Err c.in_err-next.field-0.0)) (same-doc c.top-top.result.now _ _ c.top-top.ensures c.content-content.ensures) c.in_err-next.ensures) in
    rw (p.1, p.2) answers
