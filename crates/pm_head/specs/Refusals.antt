-- Where and why an input is refused.
use Rattle.std.specs.Prelude.{ℕ}
use Rattle.pm_head.specs.declared.code.Code.{Code}
use Rattle.pm_head.specs.declared.fault.Refusal.{Refusal}

-- this line is refused with this code
abbrev pub refused : ℕ → Code → Refusal
refused line code = record { line = line; code = code }
