-- The children that have a token in a range.
use Rattle.std.specs.Prelude.{◌≡◌, ℕ, ◌≤◌, ◌<◌, List, length, take}
use Rattle.std.specs.declared.sync.Arc.{Arc}
use Rattle.pm_node.specs.declared.node.Node.{Node}
use Rattle.pm_node.specs.Trees.{list_tokens}

-- No child before `first` and none from `end` on has a token in from..to. The children before `first` have `before` tokens.
pub record IsBetween {Z : Type 0} (xs : List (Arc Node Z)) (from to first end before : ℕ) : Type 0 where
  pub order : first ≤ end
  pub within : end ≤ length xs
  pub counted : before ≡ length (list_tokens (take first xs))
  pub starts : before ≤ from
  pub stops : end < length xs → to ≤ length (list_tokens (take end xs))
