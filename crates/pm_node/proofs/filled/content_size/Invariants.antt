use Rattle.std.proofs.Common.{◌≡◌, ◌≤◌, ℕ, List, map, drop}
use Rattle.pm_node.specs.Filled.{joined, filled_tokens}
use Rattle.pm_node.specs.Sizes.{measured, Sizes}
use Rattle.pm_node.proofs.FilledLaws.{onto}
use Rattle.pm_node.proofs.filled.content_size.Given as goal

abbrev pub invariant-loop-kind : goal.invariant-loop-kind
invariant-loop-kind l =
    (l.total ≤ 1000001)
    × ((fills : List (List ℕ)) (n : ℕ) → Sizes l.schema.spec fills n l.sizes
    → measured (joined (map (filled_tokens l.schema.spec fills n) l.kinds)) ≡ onto l.total (joined (map (filled_tokens l.schema.spec fills n) (drop l.kind-index l.kinds))))
