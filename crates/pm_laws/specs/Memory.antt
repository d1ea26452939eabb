-- That no reading of a JSON value is want of memory. A call alone runs out of it.
use Rattle.std.specs.Prelude.{Result, Ok, Err}
use Rattle.serde_json.specs.Data.{Data}
use Rattle.pm_value.specs.declared.fault.ValueError.{ValueError}
use Rattle.pm_value.specs.declared.fault.ValueError.TheVariants as value
use Rattle.pm_value.specs.Reading.{value_of}
use Rattle.pm_schema.specs.declared.spec.SchemaSpec.{SchemaSpec}
use Rattle.pm_docjson.specs.declared.fault.DocReadError.{DocReadError}
use Rattle.pm_docjson.specs.declared.fault.DocReadError.TheVariants as part
use Rattle.pm_docjson.specs.declared.leaves.LeafContent.{LeafContent}
use Rattle.pm_docjson.specs.Reading.{mark_of, node_of}
use Rattle.pm_slicejson.specs.Reading.{slice_of}
use Rattle.pm_stepjson.specs.declared.fault.StepReadError.{StepReadError}
use Rattle.pm_stepjson.specs.declared.fault.StepReadError.TheVariants as step
use Rattle.pm_stepjson.specs.Reading.{step_read}

-- a fault of the value itself
abbrev pub IsOfValue : ValueError → Type 0
IsOfValue value.Float = Unit {0}
IsOfValue value.Wide = Unit {0}
IsOfValue value.Deep = Unit {0}
IsOfValue value.NoMemory = ⊥

-- a fault of the node, the mark or the slice itself
abbrev pub IsOfPart : DocReadError → Type 0
IsOfPart part.Shape = Unit {0}
IsOfPart part.UnknownType = Unit {0}
IsOfPart part.Attr = Unit {0}
IsOfPart part.EmptyText = Unit {0}
IsOfPart part.NotASet = Unit {0}
IsOfPart part.Open = Unit {0}
IsOfPart part.NoMemory = ⊥
IsOfPart part.Large = Unit {0}

-- a fault of the step itself, or of a part of it
abbrev pub IsOfStep : StepReadError → Type 0
IsOfStep step.Shape = Unit {0}
IsOfStep step.UnknownKind = Unit {0}
IsOfStep (step.Slice e) = IsOfPart e
IsOfStep (step.Mark e) = IsOfPart e
IsOfStep step.NoMemory = ⊥
IsOfStep (step.Value e) = IsOfValue e

-- the reading gives something, or a fault that is so
abbrev pub Reads : {A E : Type 0} → (E → Type 0) → Result A E → Type 0
Reads Is (Ok x) = Unit {0}
Reads Is (Err e) = Is e

-- What JSON values are read as: each fault is one of the JSON value itself.
pub record NeverMemory (s : SchemaSpec) : Type 0 where
  pub value : (d : Data) → Reads IsOfValue (value_of d)
  pub mark : (d : Data) → Reads IsOfPart (mark_of s d)
  pub node : (leaves : LeafContent) (d : Data) → Reads IsOfPart (node_of s leaves d)
  pub slice : (d : Data) → Reads IsOfPart (slice_of s d)
  pub step : (d : Data) → Reads IsOfStep (step_read s d)
