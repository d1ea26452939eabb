-- The nodes that tokens are, as trees.
use Rattle.std.specs.Prelude.{ℕ, List, [], ◌∷◌, if◌then◌else◌}
use Rattle.pm_value.specs.Plain.{Plain}
use Rattle.pm_marks.specs.Sets.{same_marks}
use Rattle.pm_marks.specs.declared.mark.Mark.{Mark}
use Rattle.pm_tokens.specs.Tokens.{Marks, Token, Open, Close, Leaf, CodeUnit}
use Rattle.pm_attrs.specs.Attrs.{same_attrs}

mutual
  -- a text with its units, or a node with its children, which a leaf has none of
  pub data Tree : Type 0 where
    text : (units : List ℕ) (marks : List (Mark (List Plain))) → Tree
    branch : (kind : ℕ) (attrs : List Plain) (marks : List (Mark (List Plain))) (inner : Trees) → Tree

  pub data Trees : Type 0 where
    none : Trees
    tree : Tree → Trees → Trees

-- a unit before trees: it goes on the text that they begin with, if that has its marks, and else is a text of its own
abbrev pub with_unit : ℕ → Marks → Trees → Trees
with_unit u m none = tree (text (u ∷ []) m) none
with_unit u m (tree (text us n) ts) = if same_marks same_attrs m n then tree (text (u ∷ us) m) ts else tree (text (u ∷ []) m) (tree (text us n) ts)
with_unit u m (tree (branch k a n inner) ts) = tree (text (u ∷ []) m) (tree (branch k a n inner) ts)

-- the trees of the content that is being read, before the trees of the nodes that it stands in, the innermost first
abbrev pub Levels : Type 0
Levels = List Trees

abbrev pub innermost : Levels → Trees
innermost [] = none
innermost (ts ∷ levels) = ts

-- a token before what was read after it: a close begins the content of a node, and its open ends it
abbrev pub with_token : Token → Levels → Levels
with_token (Open k a m) [] = []
with_token (Open k a m) (inner ∷ []) = inner ∷ []
with_token (Open k a m) (inner ∷ (ts ∷ levels)) = tree (branch k a m inner) ts ∷ levels
with_token Close levels = none ∷ levels
with_token (Leaf k a m) [] = []
with_token (Leaf k a m) (ts ∷ levels) = tree (branch k a m none) ts ∷ levels
with_token (CodeUnit u m) [] = []
with_token (CodeUnit u m) (ts ∷ levels) = with_unit u m ts ∷ levels

-- what is read of tokens from the last to the first, before what was read after them
abbrev pub read_back : List Token → Levels → Levels
read_back [] levels = levels
read_back (t ∷ ts) levels = with_token t (read_back ts levels)

-- the trees of a whole number of nodes
abbrev pub trees_of : List Token → Trees
trees_of ts = innermost (read_back ts (none ∷ []))
