-- The slice of a view.
use Rattle.std.specs.Prelude.{ℕ, zero, suc, List, [], ◌∷◌, ◌++◌, length, reverse, replicate}
use Rattle.pm_tokens.specs.Tokens.{Token, Open, Close}
use Rattle.pm_tokens.specs.Scan.{unclosed}
use Rattle.pm_tokens.specs.Slices.{Slice}
use Rattle.pm_slice.specs.Sides.{sides}
use Rattle.pm_view.specs.Known.{Head, Known, Opening, Closing, Single, Piece, tokens_of}

abbrev pub open_of : Head → Token
open_of h = Open h.kind h.attrs h.marks

-- the opens of the nodes that the tokens close and do not open, the innermost first, where d of their own nodes are open
abbrev pub opens_before : ℕ → List Known → List Token
opens_before d [] = []
opens_before d (Opening h ∷ ts) = opens_before (suc d) ts
opens_before zero (Closing h ∷ ts) = open_of h ∷ opens_before zero ts
opens_before (suc d) (Closing h ∷ ts) = opens_before d ts
opens_before d (Single h ∷ ts) = opens_before d ts
opens_before d (Piece u m ∷ ts) = opens_before d ts

-- these tokens after these opens, with a close for each node that they leave open
abbrev pub slice_with : List Token → List Token → ℕ → Slice
slice_with opens ts start =
    let end = length (unclosed [] ts) in
    sides (reverse opens ++ (ts ++ replicate end Close)) start end

-- The tokens as a slice. The nodes that they close, and those that they leave open, are open in it.
abbrev pub sliced : List Known → Slice
sliced shown =
    let opens = opens_before 0 shown in
    slice_with opens (tokens_of shown) (length opens)
