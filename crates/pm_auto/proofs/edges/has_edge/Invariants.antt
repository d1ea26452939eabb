use Rattle.std.proofs.Common.{◌≡◌, drop}
use Rattle.pm_auto.specs.States.{has, edge_kinds}
use Rattle.pm_auto.proofs.edges.has_edge.Given as goal

abbrev pub invariant-loop-edge : goal.invariant-loop-edge
invariant-loop-edge l = has l.kind (edge_kinds l.edges) ≡ has l.kind (edge_kinds (drop l.edge-index l.edges))
