-- The nodes around a position of a document, and the marks there, read off its tokens.
use Rattle.std.specs.Prelude.{ℕ, zero, suc, ◌+◌, ◌-◌, Bool, ◌||◌, if◌then◌else◌, ◌==◌, nat_le, Option, Some, None, List, [], ◌∷◌, ◌++◌, length, drop, reverse, slice_index}
use Rattle.std.specs.List.{filter}
use Rattle.pm_marks.specs.Sets.{has}
use Rattle.pm_attrs.specs.Attrs.{same_attrs}
use Rattle.pm_tokens.specs.Tokens.{Marks, Token, Open, Close, Leaf, CodeUnit, Doc, marks_of}
use Rattle.pm_tokens.specs.Scan.{depth_at, open_at}
use Rattle.pm_tokens.specs.Kids.{children}
use Rattle.pm_sized.specs.Bound.{find_bound}
use Rattle.pm_schema.specs.declared.spec.SchemaSpec.{SchemaSpec}
use Rattle.pm_schema.specs.Types.{mark_at, is_inclusive}

-- what a place is seen as: a document and a position of its content
pub record Position : Type 0 where
  pub doc : Doc
  pub pos : ℕ

-- ---- the nodes around a position

-- the tokens up to the close that ends them, where d nodes are open before
abbrev pub up_to_close : ℕ → List Token → List Token
up_to_close d [] = []
up_to_close d (Open k a m ∷ ts) = Open k a m ∷ up_to_close (suc d) ts
up_to_close zero (Close ∷ ts) = []
up_to_close (suc d) (Close ∷ ts) = Close ∷ up_to_close d ts
up_to_close d (Leaf k a m ∷ ts) = Leaf k a m ∷ up_to_close d ts
up_to_close d (CodeUnit u m ∷ ts) = CodeUnit u m ∷ up_to_close d ts

-- the node whose open is the first token, with its content up to its close; `top` where that is no open
abbrev pub first_node : Doc → List Token → Doc
first_node top [] = top
first_node top (Open k a m ∷ ts) = record { kind = k; attrs = a; marks = m; tokens = up_to_close 0 ts }
first_node top (Close ∷ ts) = top
first_node top (Leaf k a m ∷ ts) = top
first_node top (CodeUnit u m ∷ ts) = top

-- the places of the opens around a position, the outermost first
abbrev pub opens_at : List Token → ℕ → List ℕ
opens_at ts p = reverse (open_at ts p)

-- the node around the position at depth n: the top node at 0, and then the nodes that are open there, the outermost first
abbrev pub node_around : Doc → ℕ → ℕ → Doc
node_around d p zero = d
node_around d p (suc n) = first_node d (drop (slice_index (opens_at d.tokens p) n) d.tokens)

-- the position at the start of its content, right after its open
abbrev pub start_at : Doc → ℕ → ℕ → ℕ
start_at d p zero = 0
start_at d p (suc n) = suc (slice_index (opens_at d.tokens p) n)

-- the position at the end of its content
abbrev pub end_at : Doc → ℕ → ℕ → ℕ
end_at d p n = start_at d p n + length (node_around d p n).tokens

-- the sum of the bounds of a search in each of the nodes around the position from depth 0 to depth n
abbrev pub search_bound : Doc → ℕ → ℕ → ℕ
search_bound d p zero = find_bound (length (children d.tokens))
search_bound d p (suc n) = search_bound d p n + find_bound (length (children (node_around d p (suc n)).tokens))

-- a node that is no leaf, with its open and its close
abbrev pub whole_tokens : Doc → List Token
whole_tokens n = Open n.kind n.attrs n.marks ∷ (n.tokens ++ (Close ∷ []))

-- ---- a position among children

-- where each of the children ends, the first of which starts at `at`
abbrev pub ends : ℕ → List (List Token) → List ℕ
ends at [] = []
ends at (c ∷ cs) = (at + length c) ∷ ends (at + length c) cs

-- how many children of a content end at or before a position of it
abbrev pub ended : List Token → ℕ → ℕ
ended ts p = length (filter (λ e. nat_le e p) (ends 0 (children ts)))

-- how many children of the node at depth n end at or before the position
abbrev pub index_at : Doc → ℕ → ℕ → ℕ
index_at d p n = ended (node_around d p n).tokens (p - start_at d p n)

-- a position is within a child, or between two, of which either may be wanting
pub data Beside : Type 0 where
  Within : (child : List Token) → Beside
  Between : (before after : Option (List Token)) → Beside

-- what is beside a position of these children, where `before` is the child before them
abbrev pub beside : Option (List Token) → ℕ → List (List Token) → Beside
beside before p [] = Between before None
beside before p (c ∷ cs) =
    if p == 0 then Between before (Some c)
    else (if nat_le (length c) p then beside (Some c) (p - length c) cs else Within c)

-- ---- marks

-- the marks of a child are those of its first token
abbrev pub first_marks : List Token → Marks
first_marks [] = []
first_marks (t ∷ ts) = marks_of t

-- a child that is wanting has none
abbrev pub child_marks : Option (List Token) → Marks
child_marks None = []
child_marks (Some c) = first_marks c

-- without the marks whose type is not inclusive and which the other neighbour lacks
abbrev pub going_on : (ℕ → Bool) → (other : Marks) → Marks → Marks
going_on inclusive other ms = filter (λ m. inclusive m.kind || has same_attrs other m) ms

-- Inside a text the marks are that text's. Else they are those of the node before, or of the node after where none is
-- before, which go on beside the other neighbour.
abbrev pub marks_beside : (ℕ → Bool) → Beside → Marks
marks_beside inclusive (Within child) = first_marks child
marks_beside inclusive (Between None after) = going_on inclusive [] (child_marks after)
marks_beside inclusive (Between (Some before) after) = going_on inclusive (child_marks after) (first_marks before)

-- the marks at a position, among the children of the innermost node around it
abbrev pub marks_at : (ℕ → Bool) → Doc → ℕ → Marks
marks_at inclusive d p =
    let n = depth_at d.tokens p in
    marks_beside inclusive (beside None (p - start_at d p n) (children (node_around d p n).tokens))

-- the schema says of a mark type whether text typed at the end of such a mark has it too
abbrev pub inclusive_in : SchemaSpec → ℕ → Bool
inclusive_in s m = is_inclusive (mark_at s m)
