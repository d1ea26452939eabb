use Rattle.pm_client.proofs.Pushings.{HasCome}
use Rattle.pm_client.proofs.rebasing.route_over.Given as goal

abbrev pub invariant-loop-step : goal.invariant-loop-step
invariant-loop-step g l = HasCome g.C.Change.means l.steps l.step-index l.route
