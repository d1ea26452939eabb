use Rattle.std.proofs.Common.{◌≡◌, take}
use Rattle.pm_auto.proofs.copies.copy_edges.Given as goal

abbrev pub invariant-loop-edges : goal.invariant-loop-edges
invariant-loop-edges l = l.copies ≡ take l.edges-index l.lists
