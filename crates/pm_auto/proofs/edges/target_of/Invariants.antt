use Rattle.std.proofs.Common.{◌≡◌, drop}
use Rattle.pm_auto.specs.Walks.{target}
use Rattle.pm_auto.proofs.edges.target_of.Given as goal

abbrev pub invariant-loop-edge : goal.invariant-loop-edge
invariant-loop-edge l = target l.kind l.edges ≡ target l.kind (drop l.edge-index l.edges)
