use Rattle.std.proofs.Common.{◌≡◌, drop}
use Rattle.pm_history.specs.Starts.{is_named}
use Rattle.pm_history.proofs.undoing.is_named.Given as goal

abbrev pub invariant-loop-one : goal.invariant-loop-one
invariant-loop-one l = is_named l.names l.name ≡ is_named (drop l.one-index l.names) l.name
