use Rattle.std.proofs.Common.{◌≡◌, ◌++◌, drop}
use Rattle.pm_history.specs.Histories.{still_named}
use Rattle.pm_history.proofs.dropped.still_named.Given as goal

abbrev pub invariant-loop-name : goal.invariant-loop-name
invariant-loop-name g l = l.left ++ still_named l.gone l.kept (drop l.name-index l.names) ≡ still_named l.gone l.kept l.names
