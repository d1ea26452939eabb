use Rattle.std.proofs.Common.{subst, sym}
use Rattle.pm_slicejson.specs.Reading.{slice_of}
use Rattle.pm_stepjson.specs.declared.fault.StepReadError.{StepReadError}
use Rattle.pm_stepjson.specs.Answers.{Fails}
use Rattle.pm_stepjson.specs.Fields.{as_slice}
use Rattle.pm_stepjson.proofs.FaultLaws.{slice-fails}
use Rattle.pm_stepjson.proofs.fields.as_slice.Goals as goal

pub returns-in-Err : goal.returns-in-Err
returns-in-Err g c =
    let read = slice_of c.args.schema.now.spec (g.J.JsonRef.seen c.args.json) in
    subst (λ (e : StepReadError). Fails e (as_slice read)) (sym c.slice_fault.ensures) (slice-fails c.in-Err.error read c.in-Err.ensures)
