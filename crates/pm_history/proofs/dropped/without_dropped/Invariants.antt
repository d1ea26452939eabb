use Rattle.std.proofs.Common.{◌≡◌, ◌++◌, drop}
use Rattle.pm_history.specs.Histories.{without_dropped}
use Rattle.pm_history.proofs.dropped.without_dropped.Given as goal

abbrev pub invariant-loop-event : goal.invariant-loop-event
invariant-loop-event g l = l.left.items ++ without_dropped l.gone l.kept (drop l.event-index l.events) ≡ without_dropped l.gone l.kept l.events
