use Rattle.std.proofs.Common.{◌≡◌, ◌++◌, reverse, vec_len}
use Rattle.pm_revert.specs.Backs.{backs_at}
use Rattle.pm_revert.proofs.backs.add_turned.Given as goal

abbrev pub invariant-loop-change : goal.invariant-loop-change
invariant-loop-change g l = backs_at l.index l.left.items ++ reverse l.found.items ≡ backs_at l.index l.fn.changes.items ++ reverse l.fn.found.items

abbrev pub decreases-loop-change : goal.decreases-loop-change
decreases-loop-change g l = vec_len l.left
