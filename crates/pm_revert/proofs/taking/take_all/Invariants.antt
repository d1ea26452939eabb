use Rattle.pm_revert.proofs.Takings.{IsTaking}
use Rattle.pm_revert.proofs.taking.take_all.Given as goal

abbrev pub invariant-loop-back : goal.invariant-loop-back
invariant-loop-back g l = IsTaking g.C.Change.means l.rules l.fn.so l.backs l.back-index l.so_far
