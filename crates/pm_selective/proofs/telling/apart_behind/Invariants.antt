use Rattle.std.proofs.Common.{◌≡◌, [], drop}
use Rattle.pm_selective.specs.Tests.{apart_behind, FitReaches}
use Rattle.pm_selective.proofs.telling.apart_behind.Given as goal

abbrev pub invariant-loop-item : goal.invariant-loop-item
invariant-loop-item g l = record {
  fits : FitReaches l.found.items (drop l.item-index l.items);
  same : apart_behind l.left l.found.items (drop l.item-index l.items) ≡ apart_behind l.fn.count [] l.items;
}
