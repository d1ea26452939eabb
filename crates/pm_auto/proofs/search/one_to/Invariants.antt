use Rattle.std.proofs.Common.{◌≡◌, drop}
use Rattle.pm_auto.specs.Near.{one_to}
use Rattle.pm_auto.proofs.search.one_to.Given as goal

abbrev pub invariant-loop-edge : goal.invariant-loop-edge
invariant-loop-edge l = one_to l.marks l.edges ≡ one_to l.marks (drop l.edge-index l.edges)
