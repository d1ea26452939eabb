use Rattle.std.proofs.Common.{sym, subst, refl, string_bytes, true, false, Ok, Err}
use Rattle.pm_head.specs.declared.fault.LineError.{LineError}
use Rattle.pm_head.specs.Answers.{Faults}
use Rattle.pm_head.specs.Schemas.{SchemaLine}
use Rattle.pm_talk.specs.declared.talk.Talk.{Talk}
use Rattle.pm_talk.specs.declared.talk.Talk.TheVariants.{AwaitsDocument}
use Rattle.pm_talk.specs.Talk.{Replies}
use Rattle.pm_talk.proofs.talk.Talk.take_schema.Goals as goal

pub returns-in-Ok-clause-told : goal.returns-in-Ok-clause-told
returns-in-Ok-clause-told c =
    subst (λ (t : Talk). Replies t c.args.line.now (string_bytes c.new.result) true (AwaitsDocument c.in-Ok.schema)) (sym c.requires)
    (Ok c.in-Ok.schema, c.in-Ok.ensures, (c.new.ensures.bytes, refl, refl))

pub returns-in_ok-opening_fault_text-in-Err-Code-clause-told : goal.returns-in_ok-opening_fault_text-in-Err-Code-clause-told
returns-in_ok-opening_fault_text-in-Err-Code-clause-told c =
    let text = string_bytes c.in_ok-opening_fault_text-in-Err-Code.field-0 in
    let is = subst (λ (e : LineError). Faults (SchemaLine c.args.line.now) e) c.in-Err-Code.field-0-is c.in-Err-Code.ensures in
    subst (λ (t : Talk). Replies t c.args.line.now text false t) (sym c.requires)
    (Err c.in-Err-Code.code, is, (c.in_ok-opening_fault_text-in-Err-Code.ensures, refl, refl))
