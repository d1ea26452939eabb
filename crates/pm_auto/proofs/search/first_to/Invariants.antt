use Rattle.std.proofs.Common.{◌≡◌, drop}
use Rattle.pm_auto.specs.Near.{first_to}
use Rattle.pm_auto.proofs.search.first_to.Given as goal

abbrev pub invariant-loop-edge : goal.invariant-loop-edge
invariant-loop-edge l = first_to l.marks l.edges ≡ first_to l.marks (drop l.edge-index l.edges)
