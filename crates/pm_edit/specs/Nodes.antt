-- What the edits read in a document, and the slices that they make.
use Rattle.std.specs.Prelude.{ℕ, ◌+◌, Bool, ◌&&◌, Option, Some, None, List, [], ◌∷◌, ◌++◌, length, take, drop}
use Rattle.pm_tokens.specs.Tokens.{Attrs, Marks, Token, Open, Close, Leaf, CodeUnit, Doc}
use Rattle.pm_tokens.specs.Kids.{text_tokens}
use Rattle.pm_tokens.specs.Slices.{Slice}
use Rattle.pm_slice.specs.Sides.{sides, opens_first, closes_last}
use Rattle.pm_resolve.specs.Places.{up_to_close, whole_tokens}
use Rattle.pm_fit.specs.Candidates.{hollow}

-- ---- in a document

-- the node that begins with the first token, where that is an open
abbrev pub opened_node : List Token → Option Doc
opened_node [] = None
opened_node (Open k a m ∷ ts) = Some (record { kind = k; attrs = a; marks = m; tokens = up_to_close 0 ts })
opened_node (Close ∷ ts) = None
opened_node (Leaf k a m ∷ ts) = None
opened_node (CodeUnit u m ∷ ts) = None

-- the node that begins at a position, if one with an open does
abbrev pub node_at : Doc → ℕ → Option Doc
node_at d pos = opened_node (drop pos d.tokens)

-- the position after a node that begins at `pos`
abbrev pub behind : ℕ → Doc → ℕ
behind pos node = pos + length (whole_tokens node)

-- so many closes stand before the position, and so many opens after it
abbrev pub meet : Doc → ℕ → ℕ → Bool
meet d pos depth = closes_last depth (take pos d.tokens) && opens_first depth (drop pos d.tokens)

-- ---- slices

-- whole nodes
abbrev pub closed : List Token → Slice
closed ts = sides ts 0 0

-- a text of these units with these marks; without units it is the empty slice
abbrev pub text_slice : Marks → List ℕ → Slice
text_slice marks units = closed (text_tokens marks units)

-- a node without content
abbrev pub empty_node : ℕ → Attrs → Marks → Slice
empty_node kind attrs marks = closed (Open kind attrs marks ∷ (Close ∷ []))

-- nodes around a position, from that at depth `outer` + 1 on, without content, each in the one before; twice, and all of them
-- open at the slice's sides
abbrev pub split_slice : Doc → ℕ → (outer depth : ℕ) → Slice
split_slice d pos outer depth = sides (hollow d pos outer depth ++ hollow d pos outer depth) depth depth
