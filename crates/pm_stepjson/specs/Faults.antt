-- For private clauses: the fault of a step whose slice, mark or value has a fault.
use Rattle.pm_docjson.specs.declared.fault.DocReadError.{DocReadError}
use Rattle.pm_docjson.specs.declared.fault.DocReadError.TheVariants.{Shape, UnknownType, Attr, EmptyText, NotASet, Open, NoMemory, Large}
use Rattle.pm_value.specs.declared.fault.ValueError.{ValueError}
use Rattle.pm_value.specs.declared.fault.ValueError.TheVariants as value
use Rattle.pm_stepjson.specs.declared.fault.StepReadError.{StepReadError}
use Rattle.pm_stepjson.specs.declared.fault.StepReadError.TheVariants.{Slice, Mark, Value, NoMemory as OutOfMemory}

-- running out of memory stays what it is
abbrev pub slice_fault : DocReadError → StepReadError
slice_fault Shape = Slice Shape
slice_fault UnknownType = Slice UnknownType
slice_fault Attr = Slice Attr
slice_fault EmptyText = Slice EmptyText
slice_fault NotASet = Slice NotASet
slice_fault Open = Slice Open
slice_fault NoMemory = OutOfMemory
slice_fault Large = Slice Large

abbrev pub mark_fault : DocReadError → StepReadError
mark_fault Shape = Mark Shape
mark_fault UnknownType = Mark UnknownType
mark_fault Attr = Mark Attr
mark_fault EmptyText = Mark EmptyText
mark_fault NotASet = Mark NotASet
mark_fault Open = Mark Open
mark_fault NoMemory = OutOfMemory
mark_fault Large = Mark Large

abbrev pub value_fault : ValueError → StepReadError
value_fault value.Float = Value value.Float
value_fault value.Wide = Value value.Wide
value_fault value.Deep = Value value.Deep
value_fault value.NoMemory = OutOfMemory
