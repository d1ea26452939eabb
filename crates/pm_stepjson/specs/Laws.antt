-- What the laws of steps say.
use Rattle.std.specs.Prelude.{◌≡◌, ℕ, List, Some, Ok}
use Rattle.serde_json.specs.Data.{Data}
use Rattle.serde_json.specs.Read.{read}
use Rattle.pm_tokens.specs.Tokens.{Doc}
use Rattle.pm_tokens.specs.Faults.{Valid}
use Rattle.pm_schema.specs.declared.spec.SchemaSpec.{SchemaSpec}
use Rattle.pm_schema.specs.Documents.{documents_of}
use Rattle.pm_meaning.specs.Steps.{Step}
use Rattle.pm_meaning.specs.Outcomes.{outcome}
use Rattle.pm_stepjson.specs.Reading.{step_read}
use Rattle.pm_stepjson.specs.Writing.{step_written}
use Rattle.pm_stepjson.specs.Writable.{CanBeWritten, HasCounts, IsStorable}

-- the step that the value is can be written, and its numbers are ones that are read
abbrev pub ReadStepCanBeWritten : SchemaSpec → Data → Type 0
ReadStepCanBeWritten s d = (step : Step) → step_read s d ≡ Ok step → CanBeWritten s step × HasCounts step

-- each step that applies to a valid document can be stored
abbrev pub AppliedCanBeWritten : SchemaSpec → Type 0
AppliedCanBeWritten s = (step : Step) (d next : Doc) → Valid (documents_of s) d → outcome (documents_of s) step d ≡ Ok next → IsStorable s step

-- the text is read as what is written of the step, and this as the step
pub record ComesBack (s : SchemaSpec) (step : Step) (text : List ℕ) : Type 0 where
  pub value : read text ≡ Some (step_written s step)
  pub same : step_read s (step_written s step) ≡ Ok step
