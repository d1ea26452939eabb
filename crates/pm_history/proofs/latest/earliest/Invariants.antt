use Rattle.std.proofs.Common.{◌≡◌, ◌≤◌, drop, length, min}
use Rattle.pm_history.specs.Starts.{start_of}
use Rattle.pm_history.specs.Tidy.{NamesDiffer}
use Rattle.pm_history.proofs.latest.earliest.Given as goal

abbrev pub invariant-loop-name : goal.invariant-loop-name
invariant-loop-name g l = record {
  within : l.start ≤ length l.items;
  same : NamesDiffer l.items → min l.start (start_of (drop l.name-index l.names) l.items) ≡ start_of l.names l.items;
}
