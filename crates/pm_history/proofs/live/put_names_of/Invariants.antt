use Rattle.std.proofs.Common.{◌≡◌, ◌++◌, drop}
use Rattle.pm_history.specs.Remembers.{names_of}
use Rattle.pm_history.proofs.live.put_names_of.Given as goal

abbrev pub invariant-loop-event : goal.invariant-loop-event
invariant-loop-event l = l.names ++ names_of (drop l.event-index l.events) ≡ l.initial.names ++ names_of l.events
