-- The JSON of steps that mark one node: the position and the mark that the fields give, and what is written of a step, with its
-- members in byte order of their keys.
use Rattle.std.specs.Prelude.{ℕ, List, codes, Result, Ok}
use Rattle.serde_json.specs.Data.{Data, object, member, no_members}
use Rattle.pm_list.specs.Readings.{◌>>=◌}
use Rattle.pm_marks.specs.declared.mark.Mark.{Mark}
use Rattle.pm_tokens.specs.Tokens.{Attrs}
use Rattle.pm_schema.specs.declared.spec.SchemaSpec.{SchemaSpec}
use Rattle.pm_docjson.specs.Writing.{mark_written}
use Rattle.pm_stepjson.specs.declared.node_mark.AtNode.{AtNode}
use Rattle.pm_stepjson.specs.declared.fault.StepReadError.{StepReadError}
use Rattle.pm_stepjson.specs.Fields.{number_at, mark_at, count, typed}

module _ (s : SchemaSpec) where
  -- a position, and a mark
  unfoldable pub node_from : Data → Result AtNode StepReadError
  node_from d = do
    pos ← number_at (codes "pos") d
    mark ← mark_at s d
    Ok (record { pos = pos; mark = mark })

  abbrev pub node_written : List ℕ → ℕ → Mark Attrs → Data
  node_written name pos mark = object (member (codes "mark") (mark_written s mark) (member (codes "pos") (count pos) (typed name no_members)))
