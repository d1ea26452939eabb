-- Values of attributes as they are read.
use Rattle.std.proofs.Common.{◌≡◌, ap, sym, subst, Result, Ok}
use Rattle.pm_list.specs.Readings.{◌>>=◌}
use Rattle.pm_value.specs.Plain.{Plain}
use Rattle.pm_value.specs.Views.{plain}
use Rattle.pm_value.specs.declared.value.Value.{Value}
use Rattle.pm_value.specs.declared.fault.ValueError.{ValueError}
use Rattle.pm_value.specs.declared.fault.ValueError.TheVariants.{Float, Wide, Deep, NoMemory}
use Rattle.pm_value.specs.Answers as value
use Rattle.pm_head.specs.declared.code.Code.{Code}
use Rattle.pm_head.specs.declared.fault.LineError.{LineError}
use Rattle.pm_head.specs.Answers.{Fails}
use Rattle.pm_step.specs.Values.{as_value, value-meant}
use Rattle.pm_opjson.specs.Codes.{value_code, value_coded}
use Rattle.pm_opjson.specs.Faults.{fault_of}

-- a reading of a value as the reading of a line
abbrev of_line : Result Plain ValueError → Result Value Code
of_line r = value_coded r >>= (λ v. Ok (as_value v))

line-of : (e : ValueError) (r : Result Plain ValueError) → value.Fails e r → Fails (fault_of (value_code e)) (of_line r)
line-of Float r f = ap of_line f
line-of Wide r f = ap of_line f
line-of Deep r f = ap of_line f
line-of NoMemory r f = tt

-- a reading that has this fault has its code
pub value-fault : (e : ValueError) (line : LineError) (r : Result Plain ValueError) → value.Fails e r → line ≡ fault_of (value_code e) → Fails line (value_coded r >>= (λ v. Ok (as_value v)))
value-fault e line r f h = subst (λ (l : LineError). Fails l (of_line r)) (sym h) (line-of e r f)

pub value-read : (v : Value) (r : Result Plain ValueError) → r ≡ Ok (plain v) → (value_coded r >>= (λ x. Ok (as_value x))) ≡ Ok v
value-read v r h = rw h (ap Ok (value-meant v))

pub ruleset read_values = (value-fault, value-read)
