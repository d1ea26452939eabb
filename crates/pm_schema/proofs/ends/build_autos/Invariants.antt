use Rattle.std.proofs.Common.{◌≡◌, ◌<◌, ℕ, length}
use Rattle.pm_schema.specs.Generated.{AutosOf}
use Rattle.pm_schema.specs.Refusals.{HasAutomaton}
use Rattle.pm_schema.proofs.ends.build_autos.Given as goal

abbrev pub invariant-loop-node : goal.invariant-loop-node
invariant-loop-node l =
    (length l.autos ≡ l.node-index) × AutosOf l.spec.nodes l.autos × ((j : ℕ) → j < l.node-index → HasAutomaton l.spec j)
