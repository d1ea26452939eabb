use Rattle.std.proofs.Common.{◌≡◌, drop}
use Rattle.pm_history.specs.Drops.{any_dropped}
use Rattle.pm_history.proofs.dropped.any_dropped.Given as goal

abbrev pub invariant-loop-item : goal.invariant-loop-item
invariant-loop-item g l = any_dropped l.gone l.kept ≡ any_dropped (drop l.item-index l.gone) l.kept
