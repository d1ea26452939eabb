use Rattle.std.proofs.Common.{◌≡◌, drop}
use Rattle.pm_selective.specs.Tests.{all_splices}
use Rattle.pm_selective.proofs.telling.all_splices.Given as goal

abbrev pub invariant-loop-item : goal.invariant-loop-item
invariant-loop-item g l = all_splices l.items ≡ all_splices (drop l.item-index l.items)
