-- Steps as they are read.
use Rattle.std.proofs.Common.{◌≡◌, Result, Ok, ap, sym, subst}
use Rattle.pm_list.specs.Readings.{◌>>=◌}
use Rattle.pm_head.specs.declared.code.Code.{Code}
use Rattle.pm_meaning.specs.Steps as steps
use Rattle.pm_step.specs.declared.step.Step.{Step}
use Rattle.pm_step.specs.Steps.{as_step, step_of}
use Rattle.pm_step.proofs.Meant.{step-meant}
use Rattle.pm_stepjson.specs.declared.fault.StepReadError.{StepReadError}
use Rattle.pm_stepjson.specs.declared.fault.StepReadError.TheVariants.{Shape, UnknownKind, Slice, Mark, NoMemory, Value}
use Rattle.pm_stepjson.specs.Answers as step
use Rattle.pm_head.specs.declared.fault.LineError.{LineError}
use Rattle.pm_head.specs.Answers.{Fails}
use Rattle.pm_head.specs.Codes.{node_code}
use Rattle.pm_opjson.specs.Codes.{step_code, value_code, coded}
use Rattle.pm_opjson.specs.Faults.{fault_of}
use Rattle.pm_opjson.proofs.PartLaws.{with-code}

-- a reading of a step as the reading of a line
abbrev of_line : Result steps.Step StepReadError → Result Step Code
of_line r = coded r >>= (λ s. Ok (as_step s))

line-of : (e : StepReadError) (r : Result steps.Step StepReadError) → step.Fails e r → Fails (fault_of (step_code e)) (of_line r)
line-of Shape r f = ap of_line f
line-of UnknownKind r f = ap of_line f
line-of (Slice e) r f = with-code (node_code e) (of_line r) (ap of_line f)
line-of (Mark e) r f = with-code (node_code e) (of_line r) (ap of_line f)
line-of NoMemory r f = tt
line-of (Value e) r f = with-code (value_code e) (of_line r) (ap of_line f)

-- a reading that has this fault has its code
pub step-fault : (e : StepReadError) (line : LineError) (r : Result steps.Step StepReadError) → step.Fails e r → line ≡ fault_of (step_code e) → Fails line (coded r >>= (λ s. Ok (as_step s)))
step-fault e line r f h = subst (λ (l : LineError). Fails l (of_line r)) (sym h) (line-of e r f)

pub step-read : (s : Step) (r : Result steps.Step StepReadError) → r ≡ Ok (step_of s) → (coded r >>= (λ x. Ok (as_step x))) ≡ Ok s
step-read s r h = rw h (ap Ok (step-meant s))

-- the same of a step that is presented
change-line : (e : StepReadError) (r : Result steps.Step StepReadError) → step.Fails e r → Fails (fault_of (step_code e)) (coded r)
change-line Shape r f = ap coded f
change-line UnknownKind r f = ap coded f
change-line (Slice e) r f = with-code (node_code e) (coded r) (ap coded f)
change-line (Mark e) r f = with-code (node_code e) (coded r) (ap coded f)
change-line NoMemory r f = tt
change-line (Value e) r f = with-code (value_code e) (coded r) (ap coded f)

pub change-fault : (e : StepReadError) (line : LineError) (r : Result steps.Step StepReadError) → step.Fails e r → line ≡ fault_of (step_code e) → Fails line (coded r)
change-fault e line r f h = subst (λ (l : LineError). Fails l (coded r)) (sym h) (change-line e r f)

pub change-read : (s : steps.Step) (r : Result steps.Step StepReadError) → r ≡ Ok s → coded r ≡ Ok s
change-read s r h = ap coded h

pub ruleset read_steps = (step-fault, step-read)

pub ruleset read_changes = (change-fault, change-read)
