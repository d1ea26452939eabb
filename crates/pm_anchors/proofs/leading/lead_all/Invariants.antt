use Rattle.std.proofs.Common.{◌≡◌, ◌++◌, take, drop, length}
use Rattle.pm_anchors.specs.Leading.{led, HaveRoom}
use Rattle.pm_anchors.proofs.leading.lead_all.Given as goal

abbrev pub invariant-loop-i : goal.invariant-loop-i
invariant-loop-i l = record {
  each : length l.anchors ≡ length l.places;
  room : HaveRoom l.map (drop l.i l.anchors) (drop l.i l.places);
  same : take l.i l.places ++ led l.map (drop l.i l.anchors) (drop l.i l.places) ≡ led l.map l.anchors l.fn.places;
}
