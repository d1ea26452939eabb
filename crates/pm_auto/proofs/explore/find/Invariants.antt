use Rattle.std.proofs.Common.{take}
use Rattle.pm_auto.specs.States.{Apart}
use Rattle.pm_auto.proofs.explore.find.Given as goal

abbrev pub invariant-loop-i : goal.invariant-loop-i
invariant-loop-i l = Apart l.set (take l.i l.sets)
