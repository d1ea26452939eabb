use Rattle.std.proofs.Common.{◌≡◌, take}
use Rattle.pm_marks.specs.Sets.{kept}
use Rattle.pm_marks.proofs.set.MarkSet.kept.Given as goal

abbrev pub invariant-loop-m : goal.invariant-loop-m
invariant-loop-m g l = l.marks.items ≡ kept l.rules (take l.m-index l.m-items) l.mark
