-- The node that stands first.
use Rattle.std.specs.Prelude.{ℕ, Bool, false, nat_lt, length, Option, Some, None, List, [], ◌∷◌, ◌++◌, take, drop}
use Rattle.pm_value.specs.Plain.{Plain}
use Rattle.pm_tokens.specs.Tokens.{Attrs, Marks, Token, Open, Close, Leaf, CodeUnit}
use Rattle.pm_node.specs.declared.node.Node.{Node}
use Rattle.pm_meaning.specs.Attributes.{with_node_value}

-- the type, attributes and marks of a node
pub record Head : Type 0 where
  pub kind : ℕ
  pub attrs : Attrs
  pub marks : Marks

abbrev pub head : ℕ → Attrs → Marks → Head
head k a m = record { kind = k; attrs = a; marks = m }

abbrev pub node_head : Node → Head
node_head n = head n.kind n.attrs n.marks

-- those of the node that begins with the first token, if one does
abbrev pub head_first : List Token → Option Head
head_first [] = None
head_first (Open k a m ∷ ts) = Some (head k a m)
head_first (Close ∷ ts) = None
head_first (Leaf k a m ∷ ts) = Some (head k a m)
head_first (CodeUnit u m ∷ ts) = None

-- its marks
abbrev pub marks_first : List Token → Option Marks
marks_first [] = None
marks_first (Open k a m ∷ ts) = Some m
marks_first (Close ∷ ts) = None
marks_first (Leaf k a m ∷ ts) = Some m
marks_first (CodeUnit u m ∷ ts) = None

-- there is such a node, and it has an attribute at the place
abbrev pub has_place : ℕ → Option Head → Bool
has_place i None = false
has_place i (Some h) = nat_lt i (length h.attrs)

-- the tokens with another value, at a place of the attributes of the node that begins at a position
abbrev pub valued : ℕ → Plain → ℕ → List Token → List Token
valued i value pos ts = take pos ts ++ with_node_value i value (drop pos ts)
