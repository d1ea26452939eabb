use Rattle.std.proofs.Common.{◌≡◌}
use Rattle.pm_told.specs.Showing.{serials_on}
use Rattle.pm_told.proofs.listing.serials_from.Given as goal

abbrev pub invariant-loop-i : goal.invariant-loop-i
invariant-loop-i l = l.all.items ≡ serials_on l.first l.i
