-- Readings of a token list from left to right, each over the types of the nodes that are open.
use Rattle.std.specs.Prelude.{ℕ, zero, suc, ◌+◌, ◌-◌, max, List, [], ◌∷◌, ◌++◌, length, take, drop, Bool, true, false, ◌&&◌, ◌==◌}
use Rattle.std.specs.List.{list_any, filter}
use Rattle.std.specs.Char.Utf16.{is_high_surrogate, is_low_surrogate}
use Rattle.pm_tokens.specs.Tokens.{Attrs, Marks, Token, Open, Close, Leaf, CodeUnit}

-- ---- what is open

-- the types below the innermost one
abbrev pub tail_of : List ℕ → List ℕ
tail_of [] = []
tail_of (k ∷ s) = s

-- the innermost type
abbrev pub head_of : List ℕ → ℕ
head_of [] = 0
head_of (k ∷ s) = k

-- the types of the open nodes after a list of tokens, the innermost first
abbrev pub unclosed : List ℕ → List Token → List ℕ
unclosed s [] = s
unclosed s (Open k a m ∷ ts) = unclosed (k ∷ s) ts
unclosed s (Close ∷ ts) = unclosed (tail_of s) ts
unclosed s (_ ∷ ts) = unclosed s ts

-- how many closes meet no open, where d nodes are open before
abbrev pub unmet : ℕ → List Token → ℕ
unmet d [] = 0
unmet d (Open k a m ∷ ts) = unmet (suc d) ts
unmet zero (Close ∷ ts) = suc (unmet zero ts)
unmet (suc d) (Close ∷ ts) = unmet d ts
unmet d (Leaf k a m ∷ ts) = unmet d ts
unmet d (CodeUnit u m ∷ ts) = unmet d ts

-- a whole number of nodes: each close meets its open, and no open is left
abbrev pub is_whole : List Token → Bool
is_whole ts = (unmet 0 ts == 0) && (length (unclosed [] ts) == 0)

-- The same by cases: a whole number of nodes is none; or a leaf, or a unit, and then a whole number; or an open, a whole
-- number, a close and then a whole number.
pub data Balanced : List Token → Type 0 where
  none : Balanced []
  leaf : (k : ℕ) (a : Attrs) (m : Marks) {ts : List Token} → Balanced ts → Balanced (Leaf k a m ∷ ts)
  unit : (u : ℕ) (m : Marks) {ts : List Token} → Balanced ts → Balanced (CodeUnit u m ∷ ts)
  node : (k : ℕ) (a : Attrs) (m : Marks) {inner ts : List Token} → Balanced inner → Balanced ts → Balanced (Open k a m ∷ (inner ++ (Close ∷ ts)))

-- the part from..to of a list
abbrev pub part : {A : Type 0} → ℕ → ℕ → List A → List A
part from to xs = take (to - from) (drop from xs)

-- ---- depths

-- how many nodes are open before a position
abbrev pub depth_at : List Token → ℕ → ℕ
depth_at ts p = length (unclosed [] (take p ts))

-- the places of the open tokens whose close has not come, the innermost first: `at` is the place of the first token
abbrev pub open_places : ℕ → List ℕ → List Token → List ℕ
open_places at s [] = s
open_places at s (Open k a m ∷ ts) = open_places (at + 1) (at ∷ s) ts
open_places at s (Close ∷ ts) = open_places (at + 1) (tail_of s) ts
open_places at s (_ ∷ ts) = open_places (at + 1) s ts

-- the open tokens before a position whose close is not before it, by their places
abbrev pub open_at : List Token → ℕ → List ℕ
open_at ts p = open_places 0 [] (take p ts)

-- how many nodes two positions stand in together
abbrev pub shared_depth : List Token → ℕ → ℕ → ℕ
shared_depth ts p q = length (filter (λ o. list_any (λ n. o == n) (open_at ts q)) (open_at ts p))

-- the greatest depth of a position, where d nodes are open before
abbrev pub deepest : ℕ → List Token → ℕ
deepest d [] = d
deepest d (Open k a m ∷ ts) = deepest (suc d) ts
deepest zero (Close ∷ ts) = deepest zero ts
deepest (suc d) (Close ∷ ts) = max (suc d) (deepest d ts)
deepest d (_ ∷ ts) = deepest d ts

-- the opens without the innermost one
abbrev pub rest_of : List Token → List Token
rest_of [] = []
rest_of (o ∷ s) = s

-- the opens around the place after the tokens, the innermost first
abbrev pub around : List Token → List Token → List Token
around s [] = s
around s (Open k a m ∷ ts) = around (Open k a m ∷ s) ts
around s (Close ∷ ts) = around (rest_of s) ts
around s (_ ∷ ts) = around s ts

-- ---- owners

-- a token, where each close knows the type of the node that it closed where it stood first
pub data Owned : Type 0 where
  Opening : (kind : ℕ) (attrs : Attrs) (marks : Marks) → Owned
  Closing : (owner : ℕ) → Owned
  Single : (kind : ℕ) (attrs : Attrs) (marks : Marks) → Owned
  Piece : (unit : ℕ) (marks : Marks) → Owned

-- the tokens with the owners of the closes
abbrev pub owned : List ℕ → List Token → List Owned
owned s [] = []
owned s (Open k a m ∷ ts) = Opening k a m ∷ owned (k ∷ s) ts
owned s (Close ∷ ts) = Closing (head_of s) ∷ owned (tail_of s) ts
owned s (Leaf k a m ∷ ts) = Single k a m ∷ owned s ts
owned s (CodeUnit u m ∷ ts) = Piece u m ∷ owned s ts

-- the tokens without the owners
abbrev pub plain : List Owned → List Token
plain [] = []
plain (Opening k a m ∷ ts) = Open k a m ∷ plain ts
plain (Closing o ∷ ts) = Close ∷ plain ts
plain (Single k a m ∷ ts) = Leaf k a m ∷ plain ts
plain (Piece u m ∷ ts) = CodeUnit u m ∷ plain ts

-- each close meets an open node whose type fits the close's owner
abbrev pub joins : (ℕ → ℕ → Bool) → List ℕ → List Owned → Bool
joins c s [] = true
joins c s (Opening k a m ∷ ts) = joins c (k ∷ s) ts
joins c [] (Closing o ∷ ts) = false
joins c (k ∷ s) (Closing o ∷ ts) = c k o && joins c s ts
joins c s (_ ∷ ts) = joins c s ts

-- ---- open sides

-- all are opens
abbrev pub are_opens : List Token → Bool
are_opens [] = true
are_opens (Open k a m ∷ ts) = are_opens ts
are_opens (_ ∷ _) = false

-- all are closes
abbrev pub are_closes : List Token → Bool
are_closes [] = true
are_closes (Close ∷ ts) = are_closes ts
are_closes (_ ∷ _) = false

-- closes alone and then opens alone
abbrev pub closes_then_opens : List Token → Bool
closes_then_opens [] = true
closes_then_opens (Open k a m ∷ ts) = are_opens ts
closes_then_opens (Close ∷ ts) = closes_then_opens ts
closes_then_opens (_ ∷ _) = false

-- ---- pairs of surrogates

-- a unit that is a high surrogate
abbrev pub is_high : Token → Bool
is_high (CodeUnit u m) = is_high_surrogate u
is_high _ = false

-- the last token is a high surrogate
abbrev pub ends_high : List Token → Bool
ends_high [] = false
ends_high (t ∷ []) = is_high t
ends_high (t ∷ t₂ ∷ ts) = ends_high (t₂ ∷ ts)

-- the first token is a low surrogate
abbrev pub starts_low : List Token → Bool
starts_low (CodeUnit u m ∷ ts) = is_low_surrogate u
starts_low _ = false

-- the position parts a pair: the token before it is a high surrogate, and the one after it a low one
abbrev pub parts_pair : List Token → ℕ → Bool
parts_pair ts p = ends_high (take p ts) && starts_low (drop p ts)
