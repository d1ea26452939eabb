use Rattle.std.proofs.Common.{◌++◌, take, drop}
use Rattle.pm_authors.specs.Runs.{spelled, AreMaximal}
use Rattle.pm_authors.proofs.Pieces.{IsCopied}
use Rattle.pm_authors.proofs.copying.copy_part.Given as goal

abbrev pub invariant-loop-run : goal.invariant-loop-run
invariant-loop-run l = record {
  copied : IsCopied l.runs l.run-index l.left l.passing (spelled l.copy) (spelled l.fn.copy ++ take l.fn.count (drop l.fn.skip (spelled l.runs)));
  maximal : AreMaximal l.fn.copy → AreMaximal l.copy;
}
