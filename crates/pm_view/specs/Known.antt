-- Tokens, where each close knows the node that it closes.
use Rattle.std.specs.Prelude.{ℕ, List, [], ◌∷◌}
use Rattle.pm_tokens.specs.Tokens.{Attrs, Marks, Token, Open, Close, Leaf, CodeUnit}

-- a node's type, attributes and marks
pub record Head : Type 0 where
  pub kind : ℕ
  pub attrs : Attrs
  pub marks : Marks

abbrev pub head : ℕ → Attrs → Marks → Head
head k a m = record { kind = k; attrs = a; marks = m }

-- a token; a close with the node that it closes
pub data Known : Type 0 where
  Opening : (node : Head) → Known
  Closing : (node : Head) → Known
  Single : (node : Head) → Known
  Piece : (unit : ℕ) (marks : Marks) → Known

-- the innermost of the nodes that are open; one of type 0 where none is, which no document has
abbrev pub innermost : List Head → Head
innermost [] = head 0 [] []
innermost (h ∷ s) = h

-- the nodes around it
abbrev pub outer : List Head → List Head
outer [] = []
outer (h ∷ s) = s

-- the tokens, where the nodes of s are open before, the innermost first
abbrev pub known : List Head → List Token → List Known
known s [] = []
known s (Open k a m ∷ ts) = Opening (head k a m) ∷ known (head k a m ∷ s) ts
known s (Close ∷ ts) = Closing (innermost s) ∷ known (outer s) ts
known s (Leaf k a m ∷ ts) = Single (head k a m) ∷ known s ts
known s (CodeUnit u m ∷ ts) = Piece u m ∷ known s ts

-- the same without what the closes know
abbrev pub tokens_of : List Known → List Token
tokens_of [] = []
tokens_of (Opening h ∷ ts) = Open h.kind h.attrs h.marks ∷ tokens_of ts
tokens_of (Closing h ∷ ts) = Close ∷ tokens_of ts
tokens_of (Single h ∷ ts) = Leaf h.kind h.attrs h.marks ∷ tokens_of ts
tokens_of (Piece u m ∷ ts) = CodeUnit u m ∷ tokens_of ts

-- the units of a text, each with its marks
abbrev pub pieces : Marks → List ℕ → List Known
pieces m [] = []
pieces m (u ∷ us) = Piece u m ∷ pieces m us
