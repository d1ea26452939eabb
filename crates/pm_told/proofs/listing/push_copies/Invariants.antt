use Rattle.std.proofs.Common.{◌≡◌, ◌++◌, take}
use Rattle.pm_told.proofs.listing.push_copies.Given as goal

abbrev pub invariant-loop-step : goal.invariant-loop-step
invariant-loop-step l = l.changes.items ≡ l.fn.changes.items ++ take l.step-index l.steps
