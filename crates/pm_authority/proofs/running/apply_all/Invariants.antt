use Rattle.std.proofs.Common.{◌≡◌}
use Rattle.pm_authority.proofs.RunSteps.{IsRun}
use Rattle.pm_authority.proofs.running.apply_all.Given as goal

abbrev pub invariant-loop-step : goal.invariant-loop-step
invariant-loop-step g l = record {
  counted : l.index ≡ l.step-index;
  run : IsRun g.C.Change.means l.rules l.doc l.steps l.step-index l.so_far;
}
