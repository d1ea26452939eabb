use Rattle.std.proofs.Common.{◌≡◌, drop}
use Rattle.pm_history.specs.Trims.{are_own}
use Rattle.pm_history.proofs.trimming.are_own.Given as goal

abbrev pub invariant-loop-item : goal.invariant-loop-item
invariant-loop-item g l = are_own (drop l.item-index l.items) ≡ are_own l.items
