-- The text of a step that can be stored is read back.
use Rattle.std.proofs.Common.{◌≡◌, ◌≤◌, String, Global, string_bytes, subst, arith}
use Rattle.std.specs.Prelude.{Some, Ok, Result, Err, IfOk}
use Rattle.std.specs.declared.alloc.AllocError.{AllocError}
use Rattle.serde_json.specs.Data.{Data, depth}
use Rattle.serde_json.specs.Read.{read, max_depth}
use Rattle.pm_schema.specs.declared.spec.SchemaSpec.{SchemaSpec}
use Rattle.pm_meaning.specs.Steps.{Step}
use Rattle.pm_stepjson.specs.Laws.{ComesBack}
use Rattle.pm_stepjson.specs.Reading.{step_read}
use Rattle.pm_stepjson.specs.Writable.{CanBeWritten, HasCounts, IsStorable}
use Rattle.pm_stepjson.specs.Writing.{step_written}
use Rattle.pm_stepjson.proofs.StepLevels.{step-deep}

pub step-back : (s : SchemaSpec) (step : Step) (value : Data) (r : Result (String Global) AllocError) → value ≡ step_written s step
    → IfOk r (λ t. depth (step_written s step) ≤ max_depth → read (string_bytes t) ≡ Some (step_written s step))
    → (CanBeWritten s step → HasCounts step → step_read s value ≡ Ok step)
    → IfOk r (λ t. IsStorable s step → ComesBack s step (string_bytes t))
step-back s step value (Ok t) is reads again = λ w.
    let low = step-deep s step w.written w.nested in
    record { value = reads (omega (arith, low)); same = subst (λ z. step_read s z ≡ Ok step) is (again w.written w.counts) }
step-back s step value (Err e) is reads again = tt
