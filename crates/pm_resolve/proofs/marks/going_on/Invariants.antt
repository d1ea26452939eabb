use Rattle.std.proofs.Common.{◌≡◌, drop}
use Rattle.pm_resolve.specs.Places.{inclusive_in}
use Rattle.pm_resolve.proofs.MarkLaws.{swept, is_kept}
use Rattle.pm_resolve.proofs.marks.going_on.Given as goal

abbrev pub invariant-loop-mark : goal.invariant-loop-mark
invariant-loop-mark l =
    swept (is_kept (inclusive_in l.schema.spec) l.other) (drop l.mark-index l.marks) l.left ≡ swept (is_kept (inclusive_in l.schema.spec) l.other) l.marks l.marks
