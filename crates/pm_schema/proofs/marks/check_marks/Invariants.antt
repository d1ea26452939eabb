use Rattle.std.proofs.Common.{◌≡◌, ◌&&◌, drop}
use Rattle.std.specs.List.{list_all}
use Rattle.pm_schema.specs.MarkTexts.{known_where_given}
use Rattle.pm_schema.specs.Refusals.{knows_marks}
use Rattle.pm_schema.proofs.marks.check_marks.Given as goal

abbrev pub invariant-loop-node : goal.invariant-loop-node
invariant-loop-node l =
    knows_marks l.spec ≡ list_all (λ n. known_where_given l.spec.marks n.marks) (drop l.node-index l.nodes) && list_all (λ m. known_where_given l.spec.marks m.excludes) l.spec.marks

abbrev pub invariant-loop-mark : goal.invariant-loop-mark
invariant-loop-mark l = knows_marks l.spec ≡ list_all (λ m. known_where_given l.spec.marks m.excludes) (drop l.mark-index l.marks)
