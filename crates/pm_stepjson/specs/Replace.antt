-- The JSON of a replace: the step that the fields give, and what is written of one, with its members in byte order of their keys.
use Rattle.std.specs.Prelude.{ℕ, Bool, codes, Result, Ok}
use Rattle.serde_json.specs.Data.{Data, object, member}
use Rattle.pm_list.specs.Readings.{◌>>=◌}
use Rattle.pm_tokens.specs.Slices.{Slice}
use Rattle.pm_schema.specs.declared.spec.SchemaSpec.{SchemaSpec}
use Rattle.pm_meaning.specs.Steps as steps
use Rattle.pm_meaning.specs.Steps.{Step}
use Rattle.pm_stepjson.specs.declared.fault.StepReadError.{StepReadError}
use Rattle.pm_stepjson.specs.Fields.{number_at, slice_at, structure_at, count, replaced}

module _ (s : SchemaSpec) where
  unfoldable pub replace_from : Data → Result Step StepReadError
  replace_from d = do
    from ← number_at (codes "from") d
    to ← number_at (codes "to") d
    slice ← slice_at s d
    structure ← structure_at d
    Ok (steps.Replace from to slice structure)

  abbrev pub replace_written : ℕ → ℕ → Slice → Bool → Data
  replace_written from to sl structure = object (member (codes "from") (count from) (replaced s (codes "replace") to sl structure))
