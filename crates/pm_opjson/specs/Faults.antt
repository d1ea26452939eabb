-- The fault of a line, by its code.
use Rattle.std.specs.Prelude.{Option, Some, None}
use Rattle.pm_head.specs.declared.code.Code.{Code}
use Rattle.pm_head.specs.declared.fault.LineError.{LineError}
use Rattle.pm_head.specs.declared.fault.LineError.TheVariants as line

-- running out of memory has no code
abbrev pub fault_of : Option Code → LineError
fault_of (Some code) = line.Code code
fault_of None = line.NoMemory
