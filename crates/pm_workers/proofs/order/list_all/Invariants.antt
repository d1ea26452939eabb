use Rattle.std.proofs.Common.{◌≡◌, ◌++◌, take}
use Rattle.pm_workers.specs.Merges.{numbers}
use Rattle.pm_workers.proofs.order.list_all.Given as goal

abbrev pub invariant-loop-number : goal.invariant-loop-number
invariant-loop-number l = l.order.items ≡ l.initial.order.items ++ numbers (take l.number-index l.lines)
