use Rattle.std.proofs.Common.{◌≡◌, drop}
use Rattle.std.specs.Str.{bytes_eq}
use Rattle.std.specs.Cmp.Lexicographic.{pointwise}
use Rattle.pm_archive.proofs.same.same_ids.Given as goal

abbrev pub invariant-loop-i : goal.invariant-loop-i
invariant-loop-i l = pointwise bytes_eq (drop l.i l.ids) (drop l.i l.others) ≡ pointwise bytes_eq l.ids l.others
