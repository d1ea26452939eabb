use Rattle.std.proofs.Common.{◌≡◌, take}
use Rattle.pm_sized.specs.Pairs.{total_of}
use Rattle.pm_sized.proofs.few.Few.from_items.Given as goal

abbrev pub invariant-loop-entry : goal.invariant-loop-entry
invariant-loop-entry g l = l.total ≡ total_of (take l.entry-index l.fn.items.items)
