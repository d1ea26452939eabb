use Rattle.std.proofs.Common.{◌≡◌, drop}
use Rattle.pm_selective.specs.Tests.{beyond_all}
use Rattle.pm_selective.proofs.telling.beyond_all.Given as goal

abbrev pub invariant-loop-reach : goal.invariant-loop-reach
invariant-loop-reach l = beyond_all l.range l.reaches ≡ beyond_all l.range (drop l.reach-index l.reaches)
