-- What may be put in place of from..to: the candidates, in the order in which they are tried. In all that follows m and n are
-- the depths of `from` and `to`.
use Rattle.std.specs.Prelude.{ℕ, zero, suc, ◌+◌, ◌-◌, min, Bool, ◌&&◌, if◌then◌else◌, ◌==◌, nat_lt, nat_le, List, [], ◌∷◌, ◌++◌, length, map, flat_map}
use Rattle.pm_tokens.specs.Tokens.{Token, Doc, with_tokens}
use Rattle.pm_tokens.specs.Scan.{part, depth_at, shared_depth}
use Rattle.pm_tokens.specs.Kids.{children}
use Rattle.pm_tokens.specs.Slices.{Slice, slice_size}
use Rattle.pm_slice.specs.Sides.{sides, opens_first}
use Rattle.pm_resolve.specs.Places.{node_around, whole_tokens}

-- a content with these open sides, or a content that is to be put into the nodes of a wrapping
pub data Candidate : Type 0 where
  Sided : (content : List Token) (open_start open_end : ℕ) → Candidate
  Wrapped : (content : List Token) → Candidate

-- ---- peeling

-- the content is exactly one node, which begins with an open, so that it is no text and no leaf, and is not empty
abbrev pub can_be_peeled : List Token → Bool
can_be_peeled ts = (length (children ts) == 1) && opens_first 1 ts && nat_lt 2 (length ts)

-- the tokens between the first and the last
abbrev pub inside : List Token → List Token
inside ts = part 1 (length ts - 1) ts

-- the content of that node, where each open side is one less, not below 0
abbrev pub peeled : Slice → Slice
peeled sl = sides (inside sl.content) (sl.open_start - 1) (sl.open_end - 1)

-- the slice, the slice peeled once, twice and so on, as long as it can be peeled and at most this many times
abbrev pub peelings : ℕ → Slice → List Slice
peelings zero sl = sl ∷ []
peelings (suc most) sl = sl ∷ (if can_be_peeled sl.content then peelings most (peeled sl) else [])

-- ---- peeled slices with falling open sides

-- a, a - 1 and so on down to 0
abbrev pub falling : ℕ → List ℕ
falling zero = 0 ∷ []
falling (suc a) = suc a ∷ falling a

-- the content with the open sides a and n - m + a, where the latter is not below 0
abbrev pub with_side : ℕ → ℕ → List Token → ℕ → List Candidate
with_side m n content a = if nat_le m (n + a) then Sided content a (n + a - m) ∷ [] else []

-- the same for each a from the smaller of the open start and m down to 0
abbrev pub with_sides : ℕ → ℕ → Slice → List Candidate
with_sides m n sl = flat_map (with_side m n sl.content) (falling (min sl.open_start m))

-- ---- wrapped content

-- the content in a wrapping, where m = n and the content is not empty
abbrev pub in_wrapping : ℕ → ℕ → Slice → List Candidate
in_wrapping m n sl = if (m == n) && nat_lt 0 (length sl.content) then Wrapped sl.content ∷ [] else []

-- ---- closing an empty slice

-- so many of the nodes around a position, from that at depth j + 1 on, without content, each in the one before
abbrev pub hollow : Doc → ℕ → ℕ → ℕ → List Token
hollow d p j zero = []
hollow d p j (suc count) = whole_tokens (with_tokens (node_around d p (suc j)) (hollow d p (suc j) count))

-- the nodes around `from` at depths j + 1 to m and then those around `to` at depths j + 1 to n, with all of them open
abbrev pub closing_at : Doc → ℕ → ℕ → ℕ → Candidate
closing_at d from to j =
    let left = depth_at d.tokens from - j in
    let right = depth_at d.tokens to - j in
    Sided (hollow d from j left ++ hollow d to j right) left right

-- the same for each j from the smaller of m and n down to the depth that the positions share, where the slice is empty
abbrev pub closing : Doc → ℕ → ℕ → Slice → List Candidate
closing d from to sl =
    let least = shared_depth d.tokens from to in
    let most = min (depth_at d.tokens from) (depth_at d.tokens to) in
    if slice_size sl == 0 then map (λ i. closing_at d from to (least + i)) (falling (most - least)) else []

-- ---- all of them

-- For each peeling, it with falling open sides; then each peeling in a wrapping; then the nodes that close an empty slice. A
-- slice can't be peeled as often as its content has tokens.
abbrev pub candidates : Doc → ℕ → ℕ → Slice → List Candidate
candidates d from to sl =
    let m = depth_at d.tokens from in
    let n = depth_at d.tokens to in
    let peels = peelings (length sl.content) sl in
    flat_map (with_sides m n) peels ++ (flat_map (in_wrapping m n) peels ++ closing d from to sl)
