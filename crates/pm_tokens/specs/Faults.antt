-- Which documents are valid, and the first fault of one that is not.
use Rattle.std.specs.Prelude.{◌≡◌, ℕ, ◌+◌, ◌≤◌, Bool, true, false, ◌&&◌, not, cond, if◌then◌else◌, ◌==◌, nat_le, List, [], ◌∷◌, ◌++◌, length, Option, Some, None}
use Rattle.std.specs.Char.Utf16.{is_high_surrogate, is_low_surrogate}
use Rattle.pm_marks.specs.Sets.{same_marks}
use Rattle.pm_tokens.specs.Tokens.{Marks, Token, Open, Close, Leaf, CodeUnit, Doc, marks_of}
use Rattle.pm_tokens.specs.Schemas.{Schema, max_size, max_depth, node_attrs}
use Rattle.pm_tokens.specs.Scan.{head_of, tail_of, unclosed, is_whole, depth_at, deepest}
use Rattle.pm_attrs.specs.Attrs.{same_attrs}
use Rattle.pm_tokens.specs.Marks.{is_set, are_allowed, have_attrs}
use Rattle.pm_tokens.specs.Kids.{kids, goes_on}

-- ---- what a token must be

-- a node's attributes, and those of the token's marks, are the ones that the types declare
abbrev pub attrs_fit : Schema → Token → Bool
attrs_fit s (Open k a m) = node_attrs s k a && have_attrs s m
attrs_fit s Close = true
attrs_fit s (Leaf k a m) = node_attrs s k a && have_attrs s m
attrs_fit s (CodeUnit u m) = have_attrs s m

-- the token's marks are a set that the parent's type allows
abbrev pub marks_fit : Schema → ℕ → Token → Bool
marks_fit s parent t = is_set s (marks_of t) && are_allowed s parent (marks_of t)

-- An open is of a type that is no leaf and not text, and accepts the types of the children, which the next tokens show. A
-- leaf is of a leaf type that is not text.
abbrev pub content_fits : Schema → Token → List Token → Bool
content_fits s (Open k a m) next = not (k == s.text) && not (s.is_leaf k) && s.accepts k (kids s.text 0 None next)
content_fits s (Leaf k a m) next = not (k == s.text) && s.is_leaf k
content_fits s _ next = true

-- the next token is a low surrogate with these marks
abbrev pub low_next : Marks → List Token → Bool
low_next m (CodeUnit u n ∷ ts) = is_low_surrogate u && same_marks same_attrs m n
low_next m _ = false

-- the marks of a high surrogate
abbrev pub high_of : Token → Option Marks
high_of (CodeUnit u m) = cond (is_high_surrogate u) (Some m) None
high_of _ = None

-- A unit that is no half of a pair, or whose other half stands beside it with equal marks. `high` has the marks of the
-- token before, if that is a high surrogate.
abbrev pub pair_fits : Option Marks → Token → List Token → Bool
pair_fits high (CodeUnit u m) next = cond (is_high_surrogate u) (low_next m next) (cond (is_low_surrogate u) (goes_on high m) true)
pair_fits high _ next = true

-- the marks of the last token, if that is a high surrogate
abbrev pub last_high : Option Marks → List Token → Option Marks
last_high high [] = high
last_high high (t ∷ ts) = last_high (high_of t) ts

-- ---- valid documents

-- the token t stands in the list, with these tokens before and these after it
abbrev pub StandsIn : List Token → List Token → Token → List Token → Type 0
StandsIn ts before t behind = ts ≡ before ++ (t ∷ behind)

-- A valid document: its size and the depth of each position are bounded, no pair is broken, and each node and unit has the
-- attributes that its type declares, marks that are a set which the parent's type allows, and children that its type
-- accepts. The top node has no marks.
pub record Valid (s : Schema) (d : Doc) : Type 0 where
  pub whole : is_whole d.tokens ≡ true
  pub size : length d.tokens ≤ max_size s
  pub depth : (p : ℕ) → depth_at d.tokens p ≤ max_depth
  pub pairs : (before : List Token) (t : Token) (behind : List Token) → StandsIn d.tokens before t behind → pair_fits (last_high None before) t behind ≡ true
  pub top_attrs : node_attrs s d.kind d.attrs ≡ true
  pub top_marks : d.marks ≡ []
  pub top_content : s.accepts d.kind (kids s.text 0 None d.tokens) ≡ true
  pub attrs : (before : List Token) (t : Token) (behind : List Token) → StandsIn d.tokens before t behind → attrs_fit s t ≡ true
  pub marks : (before : List Token) (t : Token) (behind : List Token) → StandsIn d.tokens before t behind → marks_fit s (head_of (unclosed (d.kind ∷ []) before)) t ≡ true
  pub content : (before : List Token) (t : Token) (behind : List Token) → StandsIn d.tokens before t behind → content_fits s t behind ≡ true

-- ---- the first fault

-- what is wrong with a document: place 0 is the top node, and place p + 1 the node or unit whose token is the p-th
pub data Fault : Type 0 where
  Large : Fault
  Deep : Fault
  Pair : (at : ℕ) → Fault
  BadAttrs : (at : ℕ) → Fault
  BadMarks : (at : ℕ) → Fault
  BadContent : (at : ℕ) → Fault

-- the first of two faults that is there
abbrev pub first_some : {A : Type 0} → Option A → Option A → Option A
first_some (Some x) later = Some x
first_some None later = later

-- the first of these that is not so
abbrev pub fault_unless : (attrs marks content : Bool) → ℕ → Option Fault
fault_unless attrs marks content at =
    if not attrs then Some (BadAttrs at) else (if not marks then Some (BadMarks at) else (if not content then Some (BadContent at) else None))

-- the open nodes after the token
abbrev pub under : List ℕ → Token → List ℕ
under ps (Open k a m) = k ∷ ps
under ps Close = tail_of ps
under ps _ = ps

-- the first token with a fault of attributes, marks or content, under the nodes that are open: `at` is the place of the first token
abbrev pub first_fault : Schema → ℕ → List ℕ → List Token → Option Fault
first_fault s at ps [] = None
first_fault s at ps (t ∷ ts) =
    first_some (fault_unless (attrs_fit s t) (marks_fit s (head_of ps) t) (content_fits s t ts) at) (first_fault s (at + 1) (under ps t) ts)

-- the first broken unit
abbrev pub first_broken : ℕ → Option Marks → List Token → Option Fault
first_broken at high [] = None
first_broken at high (t ∷ ts) = cond (pair_fits high t ts) (first_broken (at + 1) (high_of t) ts) (Some (Pair at))

abbrev pub no_marks : Marks → Bool
no_marks [] = true
no_marks (m ∷ ms) = false

-- the fault of the top node
abbrev pub top_fault : Schema → Doc → Option Fault
top_fault s d = fault_unless (node_attrs s d.kind d.attrs) (no_marks d.marks) (s.accepts d.kind (kids s.text 0 None d.tokens)) 0

-- the first fault: size and depth first, then pairs, and then the least place, with attributes before marks before content
abbrev pub fault : Schema → Doc → Option Fault
fault s d =
    if not (nat_le (length d.tokens) (max_size s)) then Some Large
    else (if not (nat_le (deepest 0 d.tokens) max_depth) then Some Deep
    else first_some (first_broken 1 None d.tokens) (first_some (top_fault s d) (first_fault s 1 (d.kind ∷ []) d.tokens)))

-- ---- the least place with a fault of any kind but size and depth

abbrev pub one_on : Option ℕ → Option ℕ
one_on None = None
one_on (Some p) = Some (p + 1)

abbrev pub place_unless : Bool → Option ℕ → Option ℕ
place_unless true later = one_on later
place_unless false later = Some 0

-- the token has no fault
abbrev pub token_fits : Schema → ℕ → Option Marks → Token → List Token → Bool
token_fits s parent high t next = attrs_fit s t && marks_fit s parent t && content_fits s t next && pair_fits high t next

-- the place of the first token with a fault, under the nodes that are open
abbrev pub place_from : Schema → List ℕ → Option Marks → List Token → Option ℕ
place_from s ps high [] = None
place_from s ps high (t ∷ ts) = place_unless (token_fits s (head_of ps) high t ts) (place_from s (under ps t) (high_of t) ts)

-- the top node has no fault
abbrev pub top_fits : Schema → Doc → Bool
top_fits s d = node_attrs s d.kind d.attrs && no_marks d.marks && s.accepts d.kind (kids s.text 0 None d.tokens)

-- the least place with a fault of attributes, marks or content, or with a broken unit
abbrev pub fault_place : Schema → Doc → Option ℕ
fault_place s d = place_unless (top_fits s d) (place_from s (d.kind ∷ []) None d.tokens)
