use Rattle.std.proofs.Common.{◌≡◌, ◌++◌, drop}
use Rattle.pm_history.specs.Histories.{names_in}
use Rattle.pm_history.proofs.branches.recording.names_in.Given as goal

abbrev pub invariant-loop-item : goal.invariant-loop-item
invariant-loop-item g l = l.names ++ names_in (drop l.item-index l.items) ≡ names_in l.items
