use Rattle.std.proofs.Common.{◌≡◌, drop}
use Rattle.pm_meaning.specs.Inverses.{first_lost}
use Rattle.pm_apply.proofs.node_mark.first_lost.Given as goal

abbrev pub invariant-loop-mark : goal.invariant-loop-mark
invariant-loop-mark l = first_lost l.mark-items l.new ≡ first_lost (drop l.mark-index l.mark-items) l.new
