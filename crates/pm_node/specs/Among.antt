-- Where a position stands among children, and runs of them.
use Rattle.std.specs.Prelude.{◌≡◌, ℕ, ◌+◌, ◌≤◌, ◌<◌, List, length, take, get_or}
use Rattle.std.specs.declared.sync.Arc.{Arc}
use Rattle.std.specs.Arc.{arc_value}
use Rattle.pm_node.specs.declared.node.Node.{Node}
use Rattle.pm_node.specs.Trees.{node_tokens, list_tokens}

-- A position stands after `index` children, which end at or before it, and `rest` tokens into the next one, where there
-- is one.
pub record Stands {Z : Type 0} (xs : List (Arc Node Z)) (pos index rest : ℕ) : Type 0 where
  pub within : index ≤ length xs
  pub offset : length (list_tokens (take index xs)) + rest ≡ pos
  pub at_end : index ≡ length xs → rest ≡ 0
  pub inside : (x : Arc Node Z) → index < length xs → x ≡ get_or xs index x → rest < length (node_tokens (arc_value x))
