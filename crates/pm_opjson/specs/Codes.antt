-- The codes of the faults of steps, nodes, marks, slices, attributes and values. Running out of memory has none.
use Rattle.std.specs.Prelude.{Option, Some, None, Result, Ok, Err, unwrap_or}
use Rattle.pm_value.specs.declared.fault.ValueError.{ValueError}
use Rattle.pm_value.specs.declared.fault.ValueError.TheVariants as value
use Rattle.pm_docjson.specs.declared.fault.DocReadError.{DocReadError}
use Rattle.pm_head.specs.declared.code.Code.{Code}
use Rattle.pm_head.specs.declared.code.Code.TheVariants.{InputTooLong, WrongShape, UnknownName, BadAttribute}
use Rattle.pm_head.specs.Codes.{node_code}
use Rattle.pm_stepjson.specs.declared.fault.StepReadError.{StepReadError}
use Rattle.pm_stepjson.specs.declared.fault.StepReadError.TheVariants.{Shape, UnknownKind, Slice, Mark, NoMemory, Value}

-- a JSON value that is no value of an attribute
abbrev pub value_code : ValueError → Option Code
value_code value.Float = Some BadAttribute
value_code value.Wide = Some BadAttribute
value_code value.Deep = Some BadAttribute
value_code value.NoMemory = None

abbrev pub step_code : StepReadError → Option Code
step_code Shape = Some WrongShape
step_code UnknownKind = Some UnknownName
step_code (Slice e) = node_code e
step_code (Mark e) = node_code e
step_code NoMemory = None
step_code (Value e) = value_code e

-- A step that was read, or the code of its fault. A reading has no running out of memory, for which the code stands that no
-- line has.
abbrev pub coded : {A : Type 0} → Result A StepReadError → Result A Code
coded (Ok x) = Ok x
coded (Err e) = Err (unwrap_or (step_code e) InputTooLong)

-- the same of a node, a mark, a slice or attributes
abbrev pub node_coded : {A : Type 0} → Result A DocReadError → Result A Code
node_coded (Ok x) = Ok x
node_coded (Err e) = Err (unwrap_or (node_code e) InputTooLong)

-- the same of a value
abbrev pub value_coded : {A : Type 0} → Result A ValueError → Result A Code
value_coded (Ok x) = Ok x
value_coded (Err e) = Err (unwrap_or (value_code e) InputTooLong)
