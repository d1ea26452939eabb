use Rattle.std.proofs.Common.{◌≡◌, ◌++◌, drop}
use Rattle.pm_auto.specs.Fills.{fits_from}
use Rattle.pm_auto.proofs.fills.ends_of.Given as goal

abbrev pub invariant-loop-state : goal.invariant-loop-state
invariant-loop-state l = fits_from l.auto'.sets l.edges l.to_end l.after 0 l.auto'.sets ≡ l.list ++ fits_from l.auto'.sets l.edges l.to_end l.after l.state (drop l.state l.auto'.sets)
