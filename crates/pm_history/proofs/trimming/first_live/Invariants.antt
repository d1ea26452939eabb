use Rattle.std.proofs.Common.{◌≡◌, ◌+◌, drop}
use Rattle.pm_history.specs.Starts.{start_of}
use Rattle.pm_history.proofs.trimming.first_live.Given as goal

abbrev pub invariant-loop-item : goal.invariant-loop-item
invariant-loop-item g l = record {
  counted : l.passed ≡ l.item-index;
  same : l.passed + start_of l.names (drop l.passed l.items) ≡ start_of l.names l.items;
}
