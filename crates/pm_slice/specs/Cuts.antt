-- What cutting gives.
use Rattle.std.specs.Prelude.{◌≡◌, ℕ, ◌+◌, ◌≤◌, ◌<◌, List, length, Result, Ok, Err}
use Rattle.pm_tokens.specs.Tokens.{Token}
use Rattle.pm_tokens.specs.Scan.{Balanced, part, depth_at, shared_depth}
use Rattle.pm_tokens.specs.Slices.{Slice, slice_tokens, cut}
use Rattle.pm_node.specs.declared.node.Node.{Node}
use Rattle.pm_node.specs.declared.node.Body.TheVariants.{Children}
use Rattle.pm_node.specs.Trees.{node_tokens}
use Rattle.pm_slice.specs.declared.fault.CutError.{CutError}
use Rattle.pm_slice.specs.declared.fault.CutError.TheVariants.{Range, NoMemory}

-- positions in order within the tokens
abbrev pub InRange : List Token → ℕ → ℕ → Type 0
InRange ts from to = (from ≤ to) × (to ≤ length ts)

-- The slice is the cut: its tokens are the part from..to, and its open sides are the depths of the two positions, each less
-- the depth that they share.
pub record IsCut (ts : List Token) (from to : ℕ) (sl : Slice) : Type 0 where
  pub in_range : InRange ts from to
  pub is : sl ≡ cut ts from to
  pub tokens : slice_tokens sl ≡ part from to ts
  pub start : sl.open_start + shared_depth ts from to ≡ depth_at ts from
  pub end : sl.open_end + shared_depth ts from to ≡ depth_at ts to

-- the slice is the cut, where the positions are in range; Range comes where they are not, and running out of memory with any
abbrev pub Cuts : List Token → ℕ → ℕ → Result Slice CutError → Type 0
Cuts ts from to (Ok sl) = IsCut ts from to sl
Cuts ts from to (Err Range) = ¬ InRange ts from to
Cuts ts from to (Err NoMemory) = Unit {0}

-- both positions are inside of the node, which has this content
pub record Inside (n : Node) (start end : ℕ) (inner : List Token) : Type 0 where
  pub after_open : 0 < start
  pub before_close : end < length (node_tokens n)
  pub is : n.body ≡ Children inner
  pub whole : Balanced inner

-- the node has no content
abbrev pub HoldsNone : Node → Type 0
HoldsNone n = (inner : List Token) → n.body ≡ Children inner → ⊥

-- some position between these has no node around it
pub record Flat (ts : List Token) (from to : ℕ) : Type 0 where
  pub at : ℕ
  pub after : from ≤ at
  pub before : at ≤ to
  pub flat : depth_at ts at ≡ 0
