-- Slices, made of a content and two open sides.
use Rattle.std.specs.Prelude.{◌≡◌, ℕ, zero, suc, ◌≤◌, Bool, true, false, cond, ◌==◌, List, [], ◌∷◌, ◌++◌, length, take, reverse, replicate, refl}
use Rattle.std.specs.Coded.{Coded, code_by, coded×, coded_ℕ}
use Rattle.pm_tokens.specs.Tokens.{Token, Open, Close, Leaf, CodeUnit}
use Rattle.pm_tokens.specs.Slices.{Slice, slice_size, is_slice}
use Rattle.pm_tokens.specs.Scan.{part, depth_at}
use Rattle.std.specs.declared.sync.Arc.{Arc}
use Rattle.pm_node.specs.declared.node.Node.{Node}
use Rattle.pm_node.specs.Trees.{list_tokens}
use Rattle.pm_node.specs.Codes.{tokens_code}
use Rattle.pm_build.specs.Positions.{path}

-- the content with these open sides
abbrev pub sides : List Token → ℕ → ℕ → Slice
sides content open_start open_end = record { content = content; open_start = open_start; open_end = open_end }

-- the slice of no tokens
abbrev pub no_slice : Slice
no_slice = sides [] 0 0

-- the slice itself, and of the slices without tokens the one
abbrev pub or_none : Slice → Slice
or_none sl = cond (slice_size sl == 0) no_slice sl

-- what is true of every slice that is made: without tokens it is the empty one
pub record IsKept (sl : Slice) : Type 0 where
  pub slice : is_slice sl ≡ true
  pub one : or_none sl ≡ sl

-- the first d tokens are there and are opens
abbrev pub opens_first : ℕ → List Token → Bool
opens_first zero ts = true
opens_first (suc d) [] = false
opens_first (suc d) (Open k a m ∷ ts) = opens_first d ts
opens_first (suc d) (Close ∷ ts) = false
opens_first (suc d) (Leaf k a m ∷ ts) = false
opens_first (suc d) (CodeUnit u m ∷ ts) = false

-- the first d tokens are there and are closes
abbrev pub closes_first : ℕ → List Token → Bool
closes_first zero ts = true
closes_first (suc d) [] = false
closes_first (suc d) (Open k a m ∷ ts) = false
closes_first (suc d) (Close ∷ ts) = closes_first d ts
closes_first (suc d) (Leaf k a m ∷ ts) = false
closes_first (suc d) (CodeUnit u m ∷ ts) = false

-- the last d tokens are there and are closes
abbrev pub closes_last : ℕ → List Token → Bool
closes_last d ts = closes_first d (reverse ts)

-- slices as tuples, by which a proof tells them apart
abbrev pub slice_code : Coded Slice
slice_code =
    code_by (List Token × (ℕ × ℕ)) (coded× tokens_code (coded× coded_ℕ coded_ℕ)) (λ sl. (sl.content, (sl.open_start, sl.open_end))) (λ p. record { content = p.0; open_start = p.1.0; open_end = p.1.1 }) (λ _. refl)

-- the tokens from..to, with the nodes around `from` opened before them and those around `to` closed after them
abbrev pub clipped : List Token → ℕ → ℕ → List Token
clipped ts from to = path ts from ++ (part from to ts ++ replicate (depth_at ts to) Close)

-- Of the first i children, which end at or after the start of a part, m is made.
pub record Clipped {Z : Type 0} (xs : List (Arc Node Z)) (i from to : ℕ) (m : List Token) : Type 0 where
  pub within : i ≤ length xs
  pub starts : from ≤ length (list_tokens (take i xs))
  pub made : m ≡ clipped (list_tokens (take i xs)) from to
  pub small : length m ≤ length (list_tokens (take i xs))
