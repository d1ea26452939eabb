-- The eight kinds of steps.
use Rattle.std.specs.Prelude.{ℕ, Bool, List}
use Rattle.pm_value.specs.Plain.{Plain}
use Rattle.pm_marks.specs.declared.mark.Mark.{Mark}
use Rattle.pm_tokens.specs.Tokens.{Attrs}
use Rattle.pm_tokens.specs.Slices.{Slice}

-- Positions are in tokens. `insert` says how many of the slice's tokens stand before the gap. With `structure` a step may
-- overwrite closes followed by opens alone. Attributes have names as bytes; `Attr` is for the node at a position, and `DocAttr`
-- for the top node.
pub data Step : Type 0 where
  Replace : (from to : ℕ) (slice : Slice) (structure : Bool) → Step
  ReplaceAround : (from to gap_from gap_to : ℕ) (slice : Slice) (insert : ℕ) (structure : Bool) → Step
  AddMark : (from to : ℕ) (mark : Mark Attrs) → Step
  RemoveMark : (from to : ℕ) (mark : Mark Attrs) → Step
  AddNodeMark : (pos : ℕ) (mark : Mark Attrs) → Step
  RemoveNodeMark : (pos : ℕ) (mark : Mark Attrs) → Step
  Attr : (pos : ℕ) (name : List ℕ) (value : Plain) → Step
  DocAttr : (name : List ℕ) (value : Plain) → Step
