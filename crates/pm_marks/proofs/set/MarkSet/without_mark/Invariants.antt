use Rattle.std.proofs.Common.{◌≡◌, take}
use Rattle.pm_marks.specs.Sets.{removed}
use Rattle.pm_marks.proofs.set.MarkSet.without_mark.Given as goal

abbrev pub invariant-loop-m : goal.invariant-loop-m
invariant-loop-m g l = l.marks.items ≡ removed g.A.Same.equal (take l.m-index l.m-items) l.mark
