-- The JSON of steps that set an attribute of the top node: the step that the fields give, and what is written of one, with its
-- members in byte order of their keys.
use Rattle.std.specs.Prelude.{ℕ, List, codes, Result, Ok}
use Rattle.serde_json.specs.Data.{Data, object, string, member, no_members}
use Rattle.pm_list.specs.Readings.{◌>>=◌}
use Rattle.pm_value.specs.Plain.{Plain}
use Rattle.pm_value.specs.Writing.{written}
use Rattle.pm_meaning.specs.Steps as steps
use Rattle.pm_meaning.specs.Steps.{Step}
use Rattle.pm_stepjson.specs.declared.fault.StepReadError.{StepReadError}
use Rattle.pm_stepjson.specs.Fields.{text_at, value_at, typed}

unfoldable pub doc_attr_from : Data → Result Step StepReadError
doc_attr_from d = do
  name ← text_at (codes "attr") d
  value ← value_at d
  Ok (steps.DocAttr name value)

abbrev pub doc_attr_written : List ℕ → Plain → Data
doc_attr_written name value =
    object (member (codes "attr") (string name) (typed (codes "docAttr") (member (codes "value") (written value) no_members)))
