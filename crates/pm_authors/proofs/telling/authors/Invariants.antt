use Rattle.std.proofs.Common.{drop}
use Rattle.pm_authors.specs.Runs.{spelled, AreMaximal}
use Rattle.pm_authors.specs.Authors.{authors_of}
use Rattle.pm_authors.proofs.Logs.{IsOnWay}
use Rattle.pm_authors.proofs.telling.authors.Given as goal

abbrev pub invariant-loop-step : goal.invariant-loop-step
invariant-loop-step g l = record {
  way : IsOnWay g.C.Change.means (drop l.step-index l.steps) (spelled l.runs) (authors_of g.C.Change.means l.steps l.fn.size);
  maximal : AreMaximal l.runs;
}
