-- What a check answers.
use Rattle.std.specs.Prelude.{◌≡◌, Option, Some, None, Result, Ok, Err}
use Rattle.pm_tokens.specs.Faults as faults
use Rattle.pm_tokens.specs.Faults.{Fault, BadContent, BadMarks, BadAttrs}
use Rattle.pm_node.specs.declared.fault.CheckError.{CheckError}
use Rattle.pm_node.specs.declared.fault.CheckError.TheVariants.{Content, Marks, Attrs, Deep, Large, Pair, NoMemory}

-- the error is this fault; running out of memory may come with any
abbrev pub Tells : CheckError → Option Fault → Type 0
Tells (Content at) fault = fault ≡ Some (BadContent at)
Tells (Marks at) fault = fault ≡ Some (BadMarks at)
Tells (Attrs at) fault = fault ≡ Some (BadAttrs at)
Tells Deep fault = fault ≡ Some faults.Deep
Tells Large fault = fault ≡ Some faults.Large
Tells (Pair at) fault = fault ≡ Some (faults.Pair at)
Tells NoMemory fault = Unit {0}

-- the answer is the first fault, if there is one
abbrev pub Checks : Result (Unit {0}) CheckError → Option Fault → Type 0
Checks (Ok done) fault = fault ≡ None
Checks (Err e) fault = Tells e fault
