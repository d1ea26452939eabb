use Rattle.pm_anchors.proofs.Insides.{SoFar}
use Rattle.pm_anchors.proofs.within.are_within.Given as goal

abbrev pub invariant-loop-anchor : goal.invariant-loop-anchor
invariant-loop-anchor l = SoFar l.size l.anchors l.anchor-index
