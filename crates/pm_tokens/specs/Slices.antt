-- Slices, and what a splice gives.
use Rattle.std.specs.Prelude.{ℕ, ◌+◌, ◌-◌, Bool, ◌&&◌, nat_le, ◌==◌, List, [], ◌++◌, length, take, drop, reverse, replicate}
use Rattle.pm_tokens.specs.Tokens.{Token, Close}
use Rattle.pm_tokens.specs.Scan.{Owned, unclosed, unmet, is_whole, owned, part, depth_at, around, are_opens, are_closes}

-- a content, and how many nodes are open at its start and at its end
pub record Slice : Type 0 where
  pub content : List Token
  pub open_start : ℕ
  pub open_end : ℕ

-- where the slice's own tokens end in the content
abbrev pub content_end : Slice → ℕ
content_end sl = length sl.content - sl.open_end

-- the slice's own tokens: the content without the opens and the closes of its open sides
abbrev pub slice_tokens : Slice → List Token
slice_tokens sl = part sl.open_start (content_end sl) sl.content

-- the number of the slice's own tokens
abbrev pub slice_size : Slice → ℕ
slice_size sl = content_end sl - sl.open_start

-- the slice's own tokens, with the owners that the closes have in the content
abbrev pub slice_owned : Slice → List Owned
slice_owned sl = part sl.open_start (content_end sl) (owned [] sl.content)

-- what is true of every slice: its content is whole, and its open sides are opens and closes
abbrev pub is_slice : Slice → Bool
is_slice sl =
    is_whole sl.content && nat_le (sl.open_start + sl.open_end) (length sl.content)
    && are_opens (take sl.open_start sl.content) && are_closes (drop (content_end sl) sl.content)

-- These tokens after those before, as a slice. The nodes that they close, and those that they leave open, are open in it.
abbrev pub closed_over : List Token → List Token → Slice
closed_over before ts =
    let n = unmet 0 ts in
    let k = length (unclosed [] ts) in
    record { content = reverse (take n (around [] before)) ++ (ts ++ replicate k Close); open_start = n; open_end = k }

-- the part from..to as a slice
abbrev pub cut : List Token → ℕ → ℕ → Slice
cut ts from to = closed_over (take from ts) (part from to ts)

-- the part from..to without the gap, as a slice
abbrev pub cut_around : List Token → ℕ → ℕ → ℕ → ℕ → Slice
cut_around ts from to gap_from gap_to = closed_over (take from ts) (part from gap_from ts ++ part gap_to to ts)

-- the tokens before `from`, those of the slice, and those from `to` on; each close keeps the owner that it had
abbrev pub spliced : List Token → ℕ → ℕ → Slice → List Owned
spliced ts from to sl = take from (owned [] ts) ++ (slice_owned sl ++ drop to (owned [] ts))

-- the same, with the gap's tokens kept after the slice's first `insert` tokens
abbrev pub spliced_around : List Token → ℕ → ℕ → ℕ → ℕ → Slice → ℕ → List Owned
spliced_around ts from to gap_from gap_to sl insert =
    take from (owned [] ts) ++ (take insert (slice_owned sl) ++ (part gap_from gap_to (owned [] ts) ++ (drop insert (slice_owned sl) ++ drop to (owned [] ts))))

-- the slice's open sides fit the depths of the two positions
abbrev pub depths_fit : List Token → ℕ → ℕ → Slice → Bool
depths_fit ts from to sl =
    nat_le sl.open_start (depth_at ts from) && (depth_at ts from + sl.open_end == depth_at ts to + sl.open_start)
