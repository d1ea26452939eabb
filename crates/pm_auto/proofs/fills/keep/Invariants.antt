use Rattle.std.proofs.Common.{◌≡◌, ◌++◌, drop}
use Rattle.pm_auto.specs.Fills.{kept}
use Rattle.pm_auto.proofs.fills.keep.Given as goal

abbrev pub invariant-loop-edge : goal.invariant-loop-edge
invariant-loop-edge l = kept l.can l.edges ≡ l.list ++ kept l.can (drop l.edge-index l.edges)
