use Rattle.std.proofs.Common.{◌≡◌, take, map}
use Rattle.pm_auto.specs.Wraps.{holds_first}
use Rattle.pm_auto.proofs.wraps.hold_first.Given as goal

abbrev pub invariant-loop-auto : goal.invariant-loop-auto
invariant-loop-auto l = l.list ≡ map (holds_first l.target) (take l.auto-index l.autos)
