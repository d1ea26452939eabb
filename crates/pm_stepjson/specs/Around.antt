-- The JSON of a replaceAround: the step that the fields give, and what is written of one, with its members in byte order of
-- their keys.
use Rattle.std.specs.Prelude.{ℕ, Bool, codes, Result, Ok}
use Rattle.serde_json.specs.Data.{Data, object, member}
use Rattle.pm_list.specs.Readings.{◌>>=◌}
use Rattle.pm_tokens.specs.Slices.{Slice}
use Rattle.pm_schema.specs.declared.spec.SchemaSpec.{SchemaSpec}
use Rattle.pm_meaning.specs.Steps as steps
use Rattle.pm_meaning.specs.Steps.{Step}
use Rattle.pm_stepjson.specs.declared.fault.StepReadError.{StepReadError}
use Rattle.pm_stepjson.specs.Fields.{number_at, slice_at, structure_at, count, replaced}

module _ (s : SchemaSpec) where
  unfoldable pub around_from : Data → Result Step StepReadError
  around_from d = do
    from ← number_at (codes "from") d
    to ← number_at (codes "to") d
    gap_from ← number_at (codes "gapFrom") d
    gap_to ← number_at (codes "gapTo") d
    insert ← number_at (codes "insert") d
    slice ← slice_at s d
    structure ← structure_at d
    Ok (steps.ReplaceAround from to gap_from gap_to slice insert structure)

  abbrev pub around_written : ℕ → ℕ → ℕ → ℕ → Slice → ℕ → Bool → Data
  around_written from to gap_from gap_to sl insert structure =
      object (member (codes "from") (count from) (member (codes "gapFrom") (count gap_from) (member (codes "gapTo") (count gap_to)
      (member (codes "insert") (count insert) (replaced s (codes "replaceAround") to sl structure)))))
