use Rattle.std.proofs.Common.{◌≡◌, ◌++◌, take, drop}
use Rattle.pm_authority.specs.Runs.{AllApply}
use Rattle.pm_versions.specs.Checkpoints.{IsVersions}
use Rattle.pm_versions.proofs.late.follow.Given as goal

abbrev pub invariant-loop-step : goal.invariant-loop-step
invariant-loop-step g l = record {
  kept : IsVersions g.C.Change.means l.rules l.versions;
  first : l.versions.first ≡ l.initial.versions.first;
  applies : (end : _) × AllApply g.C.Change.means l.rules l.versions.doc (drop l.step-index l.steps) end;
  log : l.versions.log ≡ l.initial.versions.log ++ take l.step-index l.steps;
}
