use Rattle.std.proofs.Common.{subst, sym}
use Rattle.pm_docjson.specs.Reading.{mark_of}
use Rattle.pm_stepjson.specs.declared.fault.StepReadError.{StepReadError}
use Rattle.pm_stepjson.specs.Answers.{Fails}
use Rattle.pm_stepjson.specs.Fields.{as_mark}
use Rattle.pm_stepjson.proofs.FaultLaws.{mark-fails}
use Rattle.pm_stepjson.proofs.fields.as_mark.Goals as goal

pub returns-in-Err : goal.returns-in-Err
returns-in-Err g c =
    let read = mark_of c.args.schema.now.spec (g.J.JsonRef.seen c.args.json) in
    subst (λ (e : StepReadError). Fails e (as_mark read)) (sym c.mark_fault.ensures) (mark-fails c.in-Err.error read c.in-Err.ensures)
