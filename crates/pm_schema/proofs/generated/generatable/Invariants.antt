use Rattle.std.proofs.Common.{◌≡◌, length}
use Rattle.pm_schema.specs.Generated.{HasFilled, falses}
use Rattle.pm_schema.proofs.generated.generatable.Given as goal

abbrev pub invariant-rounds : goal.invariant-rounds
invariant-rounds l = (length l.table.items ≡ length l.nodes) × HasFilled l.nodes l.table.items

abbrev pub decreases-rounds : goal.decreases-rounds
decreases-rounds l = falses l.table.items
