use Rattle.std.proofs.Common.{◌≡◌, ◌++◌, take}
use Rattle.pm_authority.specs.Runs.{changes_of}
use Rattle.pm_told.proofs.listing.push_changes_of.Given as goal

abbrev pub invariant-loop-step : goal.invariant-loop-step
invariant-loop-step l = l.changes.items ≡ l.fn.changes.items ++ changes_of (take l.step-index l.steps)
