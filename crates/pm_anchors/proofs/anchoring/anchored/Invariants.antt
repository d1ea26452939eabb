use Rattle.std.proofs.Common.{◌≡◌, ◌++◌, drop}
use Rattle.pm_anchors.specs.Anchors.{places}
use Rattle.pm_anchors.proofs.Places.{stills, IsOnWay}
use Rattle.pm_anchors.proofs.anchoring.anchored.Given as goal

abbrev pub invariant-loop-anchor : goal.invariant-loop-anchor
invariant-loop-anchor g l = l.led.items ++ stills (drop l.anchor-index l.anchors) ≡ stills l.anchors

abbrev pub invariant-loop-step : goal.invariant-loop-step
invariant-loop-step g l = IsOnWay g.C.Change.means (drop l.step-index l.steps) l.anchors l.led.items (places g.C.Change.means l.steps l.anchors)
