use Rattle.std.proofs.Common.{◌≡◌, take}
use Rattle.pm_marks.proofs.set.MarkSet.copy.Given as goal

abbrev pub invariant-loop-m : goal.invariant-loop-m
invariant-loop-m g l = l.marks.items ≡ take l.m-index l.m-items
