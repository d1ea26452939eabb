use Rattle.std.proofs.Common.{◌≡◌, drop}
use Rattle.pm_selective.specs.Tests.{are_named}
use Rattle.pm_selective.proofs.telling.are_named.Given as goal

abbrev pub invariant-loop-i : goal.invariant-loop-i
invariant-loop-i g l = are_named l.names l.items ≡ are_named (drop l.i l.names) (drop l.i l.items)
