use Rattle.std.proofs.Common.{◌≡◌, drop}
use Rattle.pm_marks.specs.Sets.{same_marks}
use Rattle.pm_marks.proofs.set.same_marks.Given as goal

abbrev pub invariant-loop-i : goal.invariant-loop-i
invariant-loop-i g l = same_marks g.A.Same.equal (drop l.i l.left) (drop l.i l.right) ≡ same_marks g.A.Same.equal l.left l.right
