use Rattle.std.proofs.Common.{◌≡◌}
use Rattle.pm_client.proofs.Makings.{IsMaking}
use Rattle.pm_client.proofs.making.make_all.Given as goal

abbrev pub invariant-loop-step : goal.invariant-loop-step
invariant-loop-step g l = record {
  counted : l.index ≡ l.step-index;
  made : IsMaking g.C.Change.means l.rules l.doc l.steps l.step-index l.so_far;
}
