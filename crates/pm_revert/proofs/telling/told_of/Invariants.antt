use Rattle.pm_revert.proofs.Tolds.{IsGathered}
use Rattle.pm_revert.proofs.telling.told_of.Given as goal

abbrev pub invariant-loop-entry : goal.invariant-loop-entry
invariant-loop-entry g l = IsGathered g.C.Change.means l.entries l.entry-index l.serial l.told.names.items l.told.items.items
