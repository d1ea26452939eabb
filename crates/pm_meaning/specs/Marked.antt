-- Documents with marks added or removed.
use Rattle.std.specs.Prelude.{ℕ, Bool, true, false, ◌&&◌, cond, List, [], ◌∷◌, ◌++◌, take, drop}
use Rattle.pm_attrs.specs.Attrs.{same_attrs}
use Rattle.pm_marks.specs.declared.mark.Mark.{Mark}
use Rattle.pm_marks.specs.Sets.{added, removed}
use Rattle.pm_tokens.specs.Tokens.{Attrs, Marks, Token, Open, Close, Leaf, CodeUnit, Doc, with_tokens}
use Rattle.pm_tokens.specs.Scan.{head_of, tail_of, unclosed, part}
use Rattle.pm_tokens.specs.Schemas.{Schema}

-- the set with the mark added, by the schema's rules
abbrev pub add : Schema → Mark Attrs → Marks → Marks
add s mark set = added same_attrs s.excludes set mark

-- the set without the mark
abbrev pub remove : Mark Attrs → Marks → Marks
remove mark set = removed same_attrs set mark

-- a unit, or a node of an inline type
abbrev pub is_inline_token : Schema → Token → Bool
is_inline_token s (Open k a m) = s.is_inline k
is_inline_token s Close = false
is_inline_token s (Leaf k a m) = s.is_inline k
is_inline_token s (CodeUnit u m) = true

-- a unit, an inline leaf, or the open of an inline atom
abbrev pub takes_marks : Schema → Token → Bool
takes_marks s (Open k a m) = s.is_inline k && s.is_atom k
takes_marks s Close = false
takes_marks s (Leaf k a m) = s.is_inline k
takes_marks s (CodeUnit u m) = true

-- the token's marks with the mark added, where it takes marks and the parent's type allows the mark's
abbrev pub mark_added : Schema → Mark Attrs → ℕ → Token → Marks → Marks
mark_added s mark parent t old = cond (takes_marks s t && s.allows parent mark.kind) (add s mark old) old

-- the token's marks without the mark, where it is inline
abbrev pub mark_removed : Schema → Mark Attrs → ℕ → Token → Marks → Marks
mark_removed s mark parent t old = cond (is_inline_token s t) (remove mark old) old

-- The tokens with other marks: f gives them for the parent's type, the token and the marks that it has. ps are the types of
-- the open nodes.
abbrev pub with_marks : (ℕ → Token → Marks → Marks) → List ℕ → List Token → List Token
with_marks f ps [] = []
with_marks f ps (Open k a m ∷ ts) = Open k a (f (head_of ps) (Open k a m) m) ∷ with_marks f (k ∷ ps) ts
with_marks f ps (Close ∷ ts) = Close ∷ with_marks f (tail_of ps) ts
with_marks f ps (Leaf k a m ∷ ts) = Leaf k a (f (head_of ps) (Leaf k a m) m) ∷ with_marks f ps ts
with_marks f ps (CodeUnit u m ∷ ts) = CodeUnit u (f (head_of ps) (CodeUnit u m) m) ∷ with_marks f ps ts

-- the document with the marks in from..to changed
abbrev pub marked : (ℕ → Token → Marks → Marks) → ℕ → ℕ → Doc → Doc
marked f from to d =
    let ts = d.tokens in
    with_tokens d (take from ts ++ (with_marks f (unclosed (d.kind ∷ []) (take from ts)) (part from to ts) ++ drop to ts))

-- a node stands at the head
abbrev pub starts_node : List Token → Bool
starts_node (Open k a m ∷ ts) = true
starts_node (Leaf k a m ∷ ts) = true
starts_node _ = false

-- the node at the head with other marks
abbrev pub with_node_marks : (Marks → Marks) → List Token → List Token
with_node_marks f [] = []
with_node_marks f (Open k a m ∷ ts) = Open k a (f m) ∷ ts
with_node_marks f (Close ∷ ts) = Close ∷ ts
with_node_marks f (Leaf k a m ∷ ts) = Leaf k a (f m) ∷ ts
with_node_marks f (CodeUnit u m ∷ ts) = CodeUnit u m ∷ ts

-- the document with the marks of the node at a position changed
abbrev pub node_marked : (Marks → Marks) → ℕ → Doc → Doc
node_marked f pos d = with_tokens d (take pos d.tokens ++ with_node_marks f (drop pos d.tokens))
