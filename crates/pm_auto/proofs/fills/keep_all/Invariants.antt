use Rattle.std.proofs.Common.{◌≡◌, take, map}
use Rattle.pm_auto.specs.Fills.{kept}
use Rattle.pm_auto.proofs.fills.keep_all.Given as goal

abbrev pub invariant-loop-row : goal.invariant-loop-row
invariant-loop-row l = l.list ≡ map (kept l.can) (take l.row-index l.edges)
