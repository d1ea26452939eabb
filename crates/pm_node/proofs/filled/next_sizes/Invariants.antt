use Rattle.std.proofs.Common.{◌≡◌, ℕ, suc, ◌<◌, length, get_or}
use Rattle.std.specs.Prelude.{None}
use Rattle.pm_node.specs.Filled.{filled_tokens}
use Rattle.pm_node.specs.Sizes.{measured, Sizes}
use Rattle.pm_node.proofs.filled.next_sizes.Given as goal

abbrev pub invariant-loop-kind : goal.invariant-loop-kind
invariant-loop-kind l =
    (length l.next ≡ l.kind)
    × ((n : ℕ) → Sizes l.schema.spec l.fills n l.sizes → (k : ℕ) → k < l.kind → get_or l.next k None ≡ measured (filled_tokens l.schema.spec l.fills (suc n) k))
