use Rattle.std.proofs.Common.{◌≡◌, drop}
use Rattle.std.specs.Cmp.Lexicographic.{pointwise}
use Rattle.pm_archive.specs.Same.{same_archive}
use Rattle.pm_house.proofs.same.same_archives.Given as goal

abbrev pub invariant-loop-i : goal.invariant-loop-i
invariant-loop-i l = pointwise same_archive (drop l.i l.archives) (drop l.i l.others) ≡ pointwise same_archive l.archives l.others
