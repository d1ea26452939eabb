-- The JSON of steps that mark a range: the ends and the mark that the fields give, and what is written of a step, with its
-- members in byte order of their keys.
use Rattle.std.specs.Prelude.{ℕ, List, codes, Result, Ok}
use Rattle.serde_json.specs.Data.{Data, object, member, no_members}
use Rattle.pm_list.specs.Readings.{◌>>=◌}
use Rattle.pm_marks.specs.declared.mark.Mark.{Mark}
use Rattle.pm_tokens.specs.Tokens.{Attrs}
use Rattle.pm_schema.specs.declared.spec.SchemaSpec.{SchemaSpec}
use Rattle.pm_docjson.specs.Writing.{mark_written}
use Rattle.pm_stepjson.specs.declared.mark.Ranged.{Ranged}
use Rattle.pm_stepjson.specs.declared.fault.StepReadError.{StepReadError}
use Rattle.pm_stepjson.specs.Fields.{number_at, mark_at, count, typed}

module _ (s : SchemaSpec) where
  -- the ends of a range, and a mark
  unfoldable pub range_from : Data → Result Ranged StepReadError
  range_from d = do
    from ← number_at (codes "from") d
    to ← number_at (codes "to") d
    mark ← mark_at s d
    Ok (record { from = from; to = to; mark = mark })

  abbrev pub range_written : List ℕ → ℕ → ℕ → Mark Attrs → Data
  range_written name from to mark =
      object (member (codes "from") (count from) (member (codes "mark") (mark_written s mark) (typed name (member (codes "to") (count to) no_members))))
