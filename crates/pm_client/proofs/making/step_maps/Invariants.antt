use Rattle.std.proofs.Common.{◌≡◌, ◌++◌, drop}
use Rattle.pm_client.specs.Rebases.{ranges_of}
use Rattle.pm_client.proofs.making.step_maps.Given as goal

abbrev pub invariant-loop-step : goal.invariant-loop-step
invariant-loop-step g l = l.maps.items ++ ranges_of g.C.Change.means (drop l.step-index l.steps) ≡ ranges_of g.C.Change.means l.steps
