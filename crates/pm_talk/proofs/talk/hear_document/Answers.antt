use Rattle.std.proofs.Common.{◌∙◌, ap, refl, subst, Ok, Err}
use Rattle.std.specs.Prelude.{Some}
use Rattle.pm_head.specs.declared.fault.LineError.{LineError}
use Rattle.pm_head.specs.Answers.{Faults}
use Rattle.pm_head.specs.Documents.{DocLine}
use Rattle.pm_talk.specs.Texts.{opened_text}
use Rattle.pm_talk.proofs.Heard.{new-authority}
use Rattle.pm_talk.proofs.talk.hear_document.Goals as goal

pub returns-in_ok-new-in-Ok : goal.returns-in_ok-new-in-Ok
returns-in_ok-new-in-Ok c =
    let doc = c.in-Ok.doc in
    let new = c.in_ok-new-in-Ok.ensures in (
      Ok doc,
      c.in-Ok.ensures.read,
      (
        c.in-Ok.ensures.valid,
        c.in_ok-opened_text-in-Ok.ensures ∙ ap opened_text c.size.ensures,
        ap Some (new-authority c.in_ok-new-in-Ok.field-0 doc new.first new.doc new.log),
      ),
    )

pub returns-in_ok-opening_fault_text-in-Err-Code : goal.returns-in_ok-opening_fault_text-in-Err-Code
returns-in_ok-opening_fault_text-in-Err-Code c =
    let is = subst (λ (e : LineError). Faults (DocLine c.args.schema.now c.args.line.now) e) c.in-Err-Code.field-0-is c.in-Err-Code.ensures.read in
    (Err c.in-Err-Code.code, is, (c.in_ok-opening_fault_text-in-Err-Code.ensures, refl))
