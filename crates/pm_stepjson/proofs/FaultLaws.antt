-- A fault of the slice, of the mark or of the value, as a fault of the step.
use Rattle.std.proofs.Common.{ap}
use Rattle.std.specs.Prelude.{Result}
use Rattle.pm_docjson.specs.declared.fault.DocReadError.{DocReadError}
use Rattle.pm_docjson.specs.declared.fault.DocReadError.TheVariants.{Shape, UnknownType, Attr, EmptyText, NotASet, Open, NoMemory, Large}
use Rattle.pm_docjson.specs.Answers as doc
use Rattle.pm_value.specs.declared.fault.ValueError.{ValueError}
use Rattle.pm_value.specs.declared.fault.ValueError.TheVariants as value
use Rattle.pm_value.specs.Answers as of_value
use Rattle.pm_stepjson.specs.Answers.{Fails}
use Rattle.pm_stepjson.specs.Faults.{slice_fault, mark_fault, value_fault}
use Rattle.pm_stepjson.specs.Fields.{as_slice, as_mark, as_value}

pub slice-fails : {Y : Type 0} → (e : DocReadError) (r : Result Y DocReadError) → doc.Fails e r → Fails (slice_fault e) (as_slice r)
slice-fails Shape r h = ap as_slice h
slice-fails UnknownType r h = ap as_slice h
slice-fails Attr r h = ap as_slice h
slice-fails EmptyText r h = ap as_slice h
slice-fails NotASet r h = ap as_slice h
slice-fails Open r h = ap as_slice h
slice-fails NoMemory r h = tt
slice-fails Large r h = ap as_slice h

pub mark-fails : {Y : Type 0} → (e : DocReadError) (r : Result Y DocReadError) → doc.Fails e r → Fails (mark_fault e) (as_mark r)
mark-fails Shape r h = ap as_mark h
mark-fails UnknownType r h = ap as_mark h
mark-fails Attr r h = ap as_mark h
mark-fails EmptyText r h = ap as_mark h
mark-fails NotASet r h = ap as_mark h
mark-fails Open r h = ap as_mark h
mark-fails NoMemory r h = tt
mark-fails Large r h = ap as_mark h

pub value-fails : {Y : Type 0} → (e : ValueError) (r : Result Y ValueError) → of_value.Fails e r → Fails (value_fault e) (as_value r)
value-fails value.Float r h = ap as_value h
value-fails value.Wide r h = ap as_value h
value-fails value.Deep r h = ap as_value h
value-fails value.NoMemory r h = tt
