use Rattle.std.proofs.Common.{◌≡◌, take}
use Rattle.pm_told.specs.Showing.{positions_of}
use Rattle.pm_told.proofs.listing.positions.Given as goal

abbrev pub invariant-loop-cursor : goal.invariant-loop-cursor
invariant-loop-cursor l = l.all.items ≡ positions_of (take l.cursor-index l.cursors)
