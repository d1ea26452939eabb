use Rattle.std.proofs.Common.{◌≡◌, ◌++◌, drop}
use Rattle.pm_workers.specs.Merges.{numbers, through_call, after_call}
use Rattle.pm_workers.proofs.order.list_call.Given as goal

abbrev pub invariant-loop-at : goal.invariant-loop-at
invariant-loop-at l =
    (l.order.items ++ numbers (through_call (drop l.at l.lines)) ≡ l.initial.order.items ++ numbers (through_call l.lines))
    × (after_call (drop l.at l.lines) ≡ after_call l.lines)
