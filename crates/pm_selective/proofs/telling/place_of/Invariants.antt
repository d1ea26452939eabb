use Rattle.std.proofs.Common.{◌≡◌, drop}
use Rattle.pm_selective.specs.Tests.{from_name}
use Rattle.pm_selective.proofs.telling.place_of.Given as goal

abbrev pub invariant-loop-item : goal.invariant-loop-item
invariant-loop-item g l = record {
  counted : l.passed ≡ l.item-index;
  same : from_name l.name (drop l.passed l.items) ≡ from_name l.name l.items;
}
