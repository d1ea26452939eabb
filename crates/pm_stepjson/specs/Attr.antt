-- The JSON of steps that set an attribute of a node: the step that the fields give, and what is written of one, with its members
-- in byte order of their keys.
use Rattle.std.specs.Prelude.{ℕ, List, codes, Result, Ok}
use Rattle.serde_json.specs.Data.{Data, object, string, member, no_members}
use Rattle.pm_list.specs.Readings.{◌>>=◌}
use Rattle.pm_value.specs.Plain.{Plain}
use Rattle.pm_value.specs.Writing.{written}
use Rattle.pm_meaning.specs.Steps as steps
use Rattle.pm_meaning.specs.Steps.{Step}
use Rattle.pm_stepjson.specs.declared.fault.StepReadError.{StepReadError}
use Rattle.pm_stepjson.specs.Fields.{number_at, text_at, value_at, count, typed}

unfoldable pub attr_from : Data → Result Step StepReadError
attr_from d = do
  pos ← number_at (codes "pos") d
  name ← text_at (codes "attr") d
  value ← value_at d
  Ok (steps.Attr pos name value)

abbrev pub attr_written : ℕ → List ℕ → Plain → Data
attr_written pos name value =
    object (member (codes "attr") (string name) (member (codes "pos") (count pos) (typed (codes "attr") (member (codes "value") (written value) no_members))))
