use Rattle.std.proofs.Common.{◌≡◌, ◌++◌, take, drop}
use Rattle.pm_schema.specs.Types.{mark_names}
use Rattle.pm_schema.specs.Refusals.{repeats, has_double_name}
use Rattle.pm_schema.proofs.naming.name_marks.Given as goal

abbrev pub invariant-loop-mark : goal.invariant-loop-mark
invariant-loop-mark l =
    (l.names ≡ mark_names (take l.mark-index l.marks)) × (has_double_name l.spec ≡ repeats (l.others ++ l.names) (mark_names (drop l.mark-index l.marks)))
