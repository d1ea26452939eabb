use Rattle.std.proofs.Common.{◌≡◌, ◌+◌, drop}
use Rattle.pm_authority.specs.Runs.{AllApply}
use Rattle.pm_versions.proofs.steps.advance.Given as goal

abbrev pub invariant-loop-step : goal.invariant-loop-step
invariant-loop-step g l = record {
  good : g.C.Change.means.is_good l.rules l.so_far;
  goes : (end : _) → AllApply g.C.Change.means l.rules l.fn.doc l.changes end → AllApply g.C.Change.means l.rules l.so_far (drop l.step-index l.changes) end;
  counted : l.steps ≡ l.initial.steps + l.step-index;
}
