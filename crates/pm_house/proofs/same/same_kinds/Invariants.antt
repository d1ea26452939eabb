use Rattle.std.proofs.Common.{◌≡◌, drop}
use Rattle.std.specs.Cmp.Lexicographic.{pointwise}
use Rattle.pm_house.specs.Same.{same_kind}
use Rattle.pm_house.proofs.same.same_kinds.Given as goal

abbrev pub invariant-loop-i : goal.invariant-loop-i
invariant-loop-i l = pointwise same_kind (drop l.i l.kinds) (drop l.i l.others) ≡ pointwise same_kind l.kinds l.others
