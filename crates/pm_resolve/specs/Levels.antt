-- The levels that a place keeps: one for each node around its position, the top node first.
use Rattle.std.specs.Prelude.{◌≡◌, ℕ, suc, ◌+◌, ◌-◌, ◌≤◌, ◌<◌, ◌^◌, Bool, ◌&&◌, nat_le, List, [], ◌∷◌, ◌++◌, length}
use Rattle.pm_tokens.specs.Tokens.{Token, Doc}
use Rattle.pm_tokens.specs.Scan.{Balanced, depth_at}
use Rattle.pm_node.specs.declared.node.Node.{Node}
use Rattle.pm_node.specs.declared.node.Body.TheVariants.{Children}
use Rattle.pm_node.specs.Trees.{node_tokens}
use Rattle.pm_node.specs.Documents.{doc_of}
use Rattle.pm_tokens.specs.Kids.{children}
use Rattle.pm_sized.specs.Bound.{find_bound}
use Rattle.pm_resolve.specs.Places.{ended}
use Rattle.pm_resolve.specs.declared.level.Level.{Level}

-- the tokens of a node's content
abbrev pub content_of : Node → List Token
content_of n = (doc_of n).tokens

-- the position is in the level's content, or at its start or end
abbrev pub holds : ℕ → Level → Bool
holds p l = nat_le l.start p && nat_le p (l.start + length (content_of l.node.now))

-- the sum of the bounds of a search in each of these nodes
abbrev pub nodes_bound : List Node → ℕ
nodes_bound [] = 0
nodes_bound (n ∷ ns) = find_bound (length (children (content_of n))) + nodes_bound ns

-- the level of a node around the position `pos`, whose content starts at `at`
pub record IsLevel (pos at : ℕ) (n : Node) (l : Level) : Type 0 where
  pub node : l.node.now ≡ n
  pub start : l.start ≡ at
  pub index : l.index ≡ ended (content_of n) (pos - at)

-- the position is in the child m of the node n: the contents of n and of m start at `at` and `inside`
pub record Enters (pos at : ℕ) (n : Node) (inside : ℕ) (m : Node) : Type 0 where
  pub front : List Token
  pub inner : List Token
  pub rest : List Token
  pub tokens : content_of n ≡ front ++ (node_tokens m ++ rest)
  pub body : m.body ≡ Children inner
  pub start : inside ≡ suc (at + length front)
  pub started : inside ≤ pos
  pub within : pos - inside ≤ length inner
  pub front_whole : Balanced front
  pub inner_whole : Balanced inner

-- Nodes that a walk from the node n has come to, n first: the position is in the content of each, and each but n is a child
-- of the one before.
pub data ComesTo (pos : ℕ) : ℕ → Node → List Node → Type 0 where
  here : (at : ℕ) (n : Node) → ComesTo pos at n (n ∷ [])
  down : (at : ℕ) (n : Node) (inside : ℕ) (m : Node) (ms : List Node) → Enters pos at n inside m → ComesTo pos inside m ms → ComesTo pos at n (n ∷ ms)

-- so many steps at most were taken in searching nodes that a walk from the node n came to
abbrev pub SearchesFew : ℕ → ℕ → Node → ℕ → ℕ → Type 0
SearchesFew pos at n before after = (ns : List Node) × ComesTo pos at n ns × (after ≤ before + nodes_bound ns)

-- the levels from that of the node n on, down to the innermost node around the position
pub data Nested (pos : ℕ) : ℕ → Node → List Level → Type 0 where
  lowest : (at : ℕ) (n : Node) (l : Level) → IsLevel pos at n l → depth_at (content_of n) (pos - at) ≡ 0 → Nested pos at n (l ∷ [])
  deeper : (at : ℕ) (n : Node) (l : Level) (inside : ℕ) (m : Node) (ls : List Level) → IsLevel pos at n l → Enters pos at n inside m → Nested pos inside m ls → Nested pos at n (l ∷ ls)

-- what is true of each place: the position is one of the document's content, and the levels are those around it
pub record Path (d : Doc) (pos : ℕ) (ls : List Level) : Type 0 where
  pub top : Node
  pub is : doc_of top ≡ d
  pub bound : length d.tokens < 2 ^ 64
  pub within : pos ≤ length d.tokens
  pub nested : Nested pos 0 top ls

-- the levels of the node n and of the nodes in it were put after those that were there
pub record Entered (pos at : ℕ) (n : Node) (old new : List Level) : Type 0 where
  pub more : List Level
  pub items : new ≡ old ++ more
  pub nested : Nested pos at n more
