use Rattle.std.proofs.Common.{◌≡◌, ◌+◌, drop}
use Rattle.pm_client.specs.Clients.{own_run}
use Rattle.pm_client.proofs.naming.own_steps.Given as goal

abbrev pub invariant-loop-step : goal.invariant-loop-step
invariant-loop-step g l = record {
  counted : l.own ≡ l.step-index;
  own : own_run l.client l.steps ≡ l.own + own_run l.client (drop l.own l.steps);
}
