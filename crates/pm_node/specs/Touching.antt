-- The children that a change touches, and those before and after them, which stay as they were.
use Rattle.std.specs.Prelude.{◌≡◌, ◌≤◌, ℕ, true, None, List, ◌∷◌, ◌++◌, length, take, drop}
use Rattle.std.specs.declared.sync.Arc.{Arc}
use Rattle.pm_tokens.specs.Tokens.{Token}
use Rattle.pm_tokens.specs.Schemas.{Schema}
use Rattle.pm_auto.specs.declared.sets.PlaceSet.{PlaceSet}
use Rattle.pm_auto.specs.declared.auto.Edge.{Edge}
use Rattle.pm_auto.specs.Walks.{accepted}
use Rattle.pm_tokens.specs.Scan.{deepest, part}
use Rattle.pm_tokens.specs.Faults.{first_fault, first_broken}
use Rattle.pm_node.specs.declared.node.Node.{Node}
use Rattle.pm_node.specs.declared.touched.Touched.{Touched}
use Rattle.pm_node.specs.Trees.{list_tokens}
use Rattle.pm_node.specs.Kinds.{kinds}

-- nodes without a fault, as children of a node of the type: no position among them is in more than so many of them
pub record Sound (s : Schema) (kind levels : ℕ) (ts : List Token) : Type 0 where
  pub faultless : (at : ℕ) (ps : List ℕ) → first_fault s at (kind ∷ ps) ts ≡ None
  pub unbroken : (at : ℕ) → first_broken at None ts ≡ None
  pub shallow : deepest 0 ts ≤ levels

-- the children from i on begin at the place `at`, which is `pos` or after it
pub record IsStart {Z : Type 0} (xs : List (Arc Node Z)) (pos i at : ℕ) : Type 0 where
  pub within : i ≤ length xs
  pub place : at ≡ length (list_tokens (take i xs))
  pub behind : pos ≤ at

-- the first i children of the one list and the first j of the other have as many tokens, no more than `pos`
pub record SameFront {Z : Type 0} (xs ys : List (Arc Node Z)) (pos i j : ℕ) : Type 0 where
  pub within : i ≤ length xs
  pub new_within : j ≤ length ys
  pub same : length (list_tokens (take i xs)) ≡ length (list_tokens (take j ys))
  pub before : length (list_tokens (take i xs)) ≤ pos

-- the children from i on of the one list and those from j on of the other have as many tokens, and the former begin at `pos` or
-- after it
pub record SameBack {Z : Type 0} (xs ys : List (Arc Node Z)) (pos i j : ℕ) : Type 0 where
  pub within : i ≤ length xs
  pub new_within : j ≤ length ys
  pub same : length (list_tokens (drop i xs)) ≡ length (list_tokens (drop j ys))
  pub behind : pos ≤ length (list_tokens (take i xs))

-- before the touched children, and after them, both lists have as many tokens, none of them from..to
pub record IsTouched {Z : Type 0} (xs ys : List (Arc Node Z)) (t : Touched) (from to : ℕ) : Type 0 where
  pub front : SameFront xs ys from t.from t.new_from
  pub back : SameBack xs ys to t.to t.new_to
  pub order : t.from ≤ t.to
  pub new_order : t.new_from ≤ t.new_to

-- the types of the one list, with those of the other's touched children in place of its own
abbrev pub types_with : {Z : Type 0} → ℕ → List (Arc Node Z) → List (Arc Node Z) → Touched → List ℕ
types_with text xs ys t = kinds text (take t.from xs) ++ (kinds text (part t.new_from t.new_to ys) ++ kinds text (drop t.to xs))

-- if the types of the one list lead from the start to a valid end, those with the other's touched children do so too
abbrev pub LeadsOn : {Z : Type 0} → ℕ → List PlaceSet → List (List Edge) → List (Arc Node Z) → List (Arc Node Z) → Touched → Type 0
LeadsOn text sets edges xs ys t = accepted sets edges 0 (kinds text xs) ≡ true → accepted sets edges 0 (types_with text xs ys t) ≡ true
