-- The tokens of a document.
use Rattle.std.specs.Prelude.{ℕ, List, []}
use Rattle.pm_value.specs.Plain.{Plain}
use Rattle.pm_marks.specs.declared.mark.Mark.{Mark}

-- the values of a node's or a mark's attributes, in the order of their names
abbrev pub Attrs : Type 0
Attrs = List Plain

-- the marks of a node or of a unit of text
abbrev pub Marks : Type 0
Marks = List (Mark (List Plain))

-- A node that is no leaf begins with Open and ends with Close, with the tokens of its content between. A leaf is one
-- token. A text is one token for each of its UTF-16 units.
pub data Token : Type 0 where
  Open : (kind : ℕ) (attrs : List Plain) (marks : List (Mark (List Plain))) → Token
  Close : Token
  Leaf : (kind : ℕ) (attrs : List Plain) (marks : List (Mark (List Plain))) → Token
  CodeUnit : (unit : ℕ) (marks : List (Mark (List Plain))) → Token

-- the type, attributes and marks of the top node, and the tokens of its content
pub record Doc : Type 0 where
  pub kind : ℕ
  pub attrs : List Plain
  pub marks : List (Mark (List Plain))
  pub tokens : List Token

-- the document with other content
abbrev pub with_tokens : Doc → List Token → Doc
with_tokens d ts = record { kind = d.kind; attrs = d.attrs; marks = d.marks; tokens = ts }

-- the marks that a token bears
abbrev pub marks_of : Token → Marks
marks_of (Open k a m) = m
marks_of Close = []
marks_of (Leaf k a m) = m
marks_of (CodeUnit u m) = m
