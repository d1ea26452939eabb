use Rattle.std.proofs.Common.{◌≡◌, ◌++◌, drop}
use Rattle.pm_history.specs.Histories.{foreign_items}
use Rattle.pm_history.proofs.dropped.foreign_items.Given as goal

abbrev pub invariant-loop-map : goal.invariant-loop-map
invariant-loop-map g l = l.items.items ++ foreign_items (drop l.map-index l.maps) ≡ foreign_items l.maps
