-- How many nodes are around positions.
use Rattle.std.specs.Prelude.{ℕ, ◌≤◌, ◌<◌, List, length}
use Rattle.pm_tokens.specs.Tokens.{Token}
use Rattle.pm_tokens.specs.Scan.{depth_at}
use Rattle.pm_node.specs.declared.node.Node.{Node}
use Rattle.pm_node.specs.Trees.{node_tokens}

-- no more than n nodes of a content are around any of the positions from..to
abbrev pub NoDeeper : List Token → ℕ → ℕ → ℕ → Type 0
NoDeeper ts from to n = (p : ℕ) → from ≤ p → p ≤ to → p ≤ length ts → depth_at ts p ≤ n

-- the same of a node's own positions
abbrev pub NodeNoDeeper : Node → ℕ → ℕ → ℕ → Type 0
NodeNoDeeper node from to n = (p : ℕ) → from ≤ p → p ≤ to → p < length (node_tokens node) → depth_at (node_tokens node) p ≤ n
