use Rattle.pm_revert.proofs.Gatherings.{IsFound}
use Rattle.pm_revert.proofs.backs.backs_of.Given as goal

abbrev pub invariant-loop-entry : goal.invariant-loop-entry
invariant-loop-entry g l = IsFound g.C.Change.means l.rules l.before l.entries l.entry-index l.so_far l.index l.found.items
