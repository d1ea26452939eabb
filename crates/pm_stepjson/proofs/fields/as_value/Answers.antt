use Rattle.std.proofs.Common.{subst, sym}
use Rattle.pm_value.specs.Reading.{value_of}
use Rattle.pm_stepjson.specs.declared.fault.StepReadError.{StepReadError}
use Rattle.pm_stepjson.specs.Answers.{Fails}
use Rattle.pm_stepjson.specs.Fields.{as_value}
use Rattle.pm_stepjson.proofs.FaultLaws.{value-fails}
use Rattle.pm_stepjson.proofs.fields.as_value.Goals as goal

pub returns-in-Err : goal.returns-in-Err
returns-in-Err g c =
    let read = value_of (g.J.JsonRef.seen c.args.json) in
    subst (λ (e : StepReadError). Fails e (as_value read)) (sym c.value_fault.ensures) (value-fails c.in-Err.error read c.in-Err.ensures.read)
