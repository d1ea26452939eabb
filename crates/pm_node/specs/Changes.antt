-- What a change of some tokens of a content keeps.
use Rattle.std.specs.Prelude.{◌≡◌, ◌≤◌, ◌<◌, ℕ, ◌+◌, ◌-◌, None, List, ◌∷◌, ◌++◌, length, take, drop, true}
use Rattle.std.specs.declared.sync.Arc.{Arc}
use Rattle.pm_tokens.specs.Tokens.{Token}
use Rattle.pm_tokens.specs.Schemas.{Schema}
use Rattle.pm_tokens.specs.Scan.{Balanced, deepest}
use Rattle.pm_tokens.specs.Kids.{kids}
use Rattle.pm_tokens.specs.Faults.{first_fault, first_broken}
use Rattle.pm_node.specs.declared.node.Node.{Node}
use Rattle.pm_node.specs.Trees.{list_tokens}

-- content without a fault, of a node of the type: no position of it is in more than so many of its nodes
pub record Holds (s : Schema) (kind levels : ℕ) (ts : List Token) : Type 0 where
  pub faultless : (at : ℕ) (ps : List ℕ) → first_fault s at (kind ∷ ps) ts ≡ None
  pub unbroken : (at : ℕ) → first_broken at None ts ≡ None
  pub shallow : deepest 0 ts ≤ levels
  pub accepted : s.accepts kind (kids s.text 0 None ts) ≡ true

-- the tokens from..to are replaced by others, which are from..new_to
pub record Changed (before after : List Token) (from to new_to : ℕ) : Type 0 where
  pub put_in : List Token
  pub ends : from + length put_in ≡ new_to
  pub is : after ≡ take from before ++ (put_in ++ drop to before)

-- if that is all that was changed, and there was no fault, there is none
abbrev pub Keeps : Schema → (kind levels : ℕ) → (before after : List Token) → (from to new_to : ℕ) → Type 0
Keeps s kind levels before after from to new_to = Changed before after from to new_to → Holds s kind levels before → Holds s kind levels after

-- the same for a node that stands at one place of both contents, where the change is told from the node on
abbrev pub NodeKeeps : Schema → (levels : ℕ) → (before after : List Token) → (from to new_to : ℕ) → Type 0
NodeKeeps s levels before after from to new_to =
    (kind : ℕ) (xs ys xs' ys' : List Token) → Balanced xs → Balanced ys → length xs ≡ length xs'
    → Keeps s kind levels (xs ++ (before ++ ys)) (xs' ++ (after ++ ys')) (length xs + from) (length xs + to) (length xs + new_to)

-- the node i of the list has its first token at the place `at`
pub record IsPlace {Z : Type 0} (xs : List (Arc Node Z)) (i at : ℕ) : Type 0 where
  pub within : i < length xs
  pub before : at ≡ length (list_tokens (take i xs))

-- both ends are within their sizes, with as many tokens after them
pub record IsSameBehind (size to new_size new_to : ℕ) : Type 0 where
  pub within : to ≤ size
  pub new_within : new_to ≤ new_size
  pub left : size - to ≡ new_size - new_to
