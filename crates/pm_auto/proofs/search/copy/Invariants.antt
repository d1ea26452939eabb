use Rattle.std.proofs.Common.{◌≡◌, take}
use Rattle.pm_auto.proofs.search.copy.Given as goal

abbrev pub invariant-loop-mark : goal.invariant-loop-mark
invariant-loop-mark l = l.list ≡ take l.mark-index l.marks
