-- The tokens that come next.
use Rattle.std.specs.Prelude.{◌≡◌, ℕ, ◌≤◌, List, [], ◌∷◌, ◌++◌, length, take, drop}
use Rattle.pm_tokens.specs.Tokens.{Token}
use Rattle.pm_tokens.specs.Scan.{deepest, depth_at}
use Rattle.pm_view.specs.declared.around.Around.{Around}
use Rattle.pm_view.specs.Known.{Known, Closing, known, tokens_of}
use Rattle.pm_view.specs.Parts.{head_of}

-- the node's close, and the rest of the content that it stands in
abbrev pub behind_one : Around → List Known
behind_one a = Closing (head_of a.node.now) ∷ drop a.at (known [] a.content.now)

-- the same of all nodes around, of which the innermost is the last
abbrev pub behind_all : List Around → List Known
behind_all [] = []
behind_all (a ∷ os) = behind_all os ++ behind_one a

-- the rest of a content, and what is after the nodes around it
abbrev pub ahead : List Token → ℕ → List Around → List Known
ahead ts at outer = drop at (known [] ts) ++ behind_all outer

-- a position of a content that is inside of no child but a text
pub record IsFlat (ts : List Token) (at : ℕ) : Type 0 where
  pub within : at ≤ length ts
  pub flat : depth_at ts at ≡ 0

-- the same of the positions after the nodes
abbrev pub AreFlat : List Around → Type 0
AreFlat [] = Unit {0}
AreFlat (a ∷ os) = IsFlat a.content.now a.at × AreFlat os

-- No more than `room` nodes are around any of the next `left` tokens.
abbrev pub FitIn : ℕ → ℕ → List Token → ℕ → List Around → Type 0
FitIn room left ts at outer = deepest (length outer) (tokens_of (take left (ahead ts at outer))) ≤ room
