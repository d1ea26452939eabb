use Rattle.std.proofs.Common.{◌≡◌, ℕ, ◌<◌, List, length, get_or}
use Rattle.std.specs.Prelude.{None}
use Rattle.pm_node.specs.Filled.{filled_tokens}
use Rattle.pm_node.specs.Sizes.{measured}
use Rattle.pm_node.proofs.filled.leaf_sizes.Given as goal

abbrev pub invariant-loop-kind : goal.invariant-loop-kind
invariant-loop-kind l = (length l.sizes ≡ l.kind) × ((fills : List (List ℕ)) (k : ℕ) → k < l.kind → get_or l.sizes k None ≡ measured (filled_tokens l.schema.spec fills 0 k))
