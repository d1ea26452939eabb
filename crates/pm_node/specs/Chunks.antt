-- How the children of a node lie in memory: in shared chunks, each with its size.
use Rattle.std.specs.Prelude.{◌≡◌, ℕ, ◌≤◌, Bool, true, false, List, [], ◌∷◌, ◌++◌, length}
use Rattle.std.specs.declared.sync.Arc.{Arc}
use Rattle.std.specs.Arc.{arc_value}
use Rattle.pm_tokens.specs.Tokens.{Token}
use Rattle.pm_tokens.specs.Scan.{part}
use Rattle.pm_sized.specs.declared.chunks.Chunks.{Chunks}
use Rattle.pm_sized.specs.Pairs.{pairs_of, total_of, IsLaid}
use Rattle.pm_sized.specs.Parts.{items_in}
use Rattle.pm_node.specs.declared.node.Node.{Node}
use Rattle.pm_node.specs.Trees.{node_tokens, list_tokens, Meets, Form}

abbrev pub nodes_of : {Z : Type 0} → Chunks (Arc Node Z) → List (Arc Node Z)
nodes_of c = items_in (pairs_of c)

-- the measure of each node is its size
abbrev pub EachSized : {Z : Type 0} → List (Arc Node Z × ℕ) → Type 0
EachSized [] = Unit {0}
EachSized (p ∷ ps) = (p.1 ≡ length (node_tokens (arc_value p.0))) × EachSized ps

-- what is true of borrowed children: they are laid in chunks, with their sizes
pub record IsBorrowed {Z : Type 0} (c : Chunks (Arc Node Z)) : Type 0 where
  pub laid : IsLaid c
  pub sized : EachSized (pairs_of c)

-- what is true of the nodes of each fragment
pub record IsKept {Z : Type 0} (c : Chunks (Arc Node Z)) : Type 0 where
  pub laid : IsLaid c
  pub sized : EachSized (pairs_of c)
  pub form : Form (total_of (pairs_of c)) (nodes_of c)

-- The last of the nodes meets what the node does, where the node was joined with it. Else it does not meet the node.
abbrev pub Follows : {Z : Type 0} → List (Arc Node Z) → Node → Bool → Type 0
Follows xs n true = (front : List (Arc Node _)) (x : Arc Node _) → xs ≡ front ++ (x ∷ []) → (y : Node) → Meets (arc_value x) y → Meets n y
Follows xs n false = (front : List (Arc Node _)) (x : Arc Node _) → xs ≡ front ++ (x ∷ []) → ¬ Meets (arc_value x) n

-- The nodes have the tokens that were there, and then those of the children from..next. The last of them doesn't meet child
-- `next`, where that is before `to`.
pub record Begun {Z : Type 0} (before : List Token) (xs : List (Arc Node Z)) (from to next : ℕ) (after : List (Arc Node Z)) : Type 0 where
  pub order : from ≤ next
  pub within : next ≤ to
  pub tokens : list_tokens after ≡ before ++ list_tokens (part from next xs)
  pub apart : (front rest : List (Arc Node Z)) (x y : Arc Node Z) → after ≡ front ++ (x ∷ []) → part next to xs ≡ y ∷ rest → ¬ Meets (arc_value x) (arc_value y)
