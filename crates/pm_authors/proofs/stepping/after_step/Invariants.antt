use Rattle.std.proofs.Common.{drop}
use Rattle.pm_authors.specs.Runs.{spelled, AreMaximal}
use Rattle.pm_authors.specs.Stepping.{over}
use Rattle.pm_authors.proofs.Ranges.{IsLeft}
use Rattle.pm_authors.proofs.stepping.after_step.Given as goal

abbrev pub invariant-loop-i : goal.invariant-loop-i
invariant-loop-i l = record {
  left : IsLeft l.author (spelled l.runs) l.at (spelled l.so_far) (over l.author l.map 0 (spelled l.runs)) (drop l.i l.map);
  maximal : AreMaximal l.so_far;
}
