use Rattle.std.proofs.Common.{map}
use Rattle.pm_auto.specs.Table.{again}
use Rattle.pm_auto.specs.Alike.{Alike_rows}
use Rattle.pm_auto.proofs.places.begin_again.Given as goal

abbrev pub invariant-loop-row : goal.invariant-loop-row
invariant-loop-row l = Alike_rows l.all (map (again l.first) l.yielded)
