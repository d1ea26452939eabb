use Rattle.std.proofs.Common.{◌≡◌, drop}
use Rattle.pm_auto.proofs.ShareLaws.{shares}
use Rattle.pm_auto.proofs.edges.share_type.Given as goal

abbrev pub invariant-loop-edge : goal.invariant-loop-edge
invariant-loop-edge l = shares l.b l.a ≡ shares l.b (drop l.edge-index l.a)
