-- What the first fault of a document is, by cases: that one is there, and none before it.
use Rattle.std.specs.Prelude.{◌≡◌, ℕ, ◌+◌, ◌≤◌, ◌<◌, ◌⊎◌, suc, Bool, true, false, ◌&&◌, List, [], ◌∷◌, length, Option, Some, None}
use Rattle.pm_tokens.specs.Tokens.{Marks, Token, Doc}
use Rattle.pm_tokens.specs.Schemas.{Schema, max_size, max_depth, node_attrs}
use Rattle.pm_tokens.specs.Scan.{head_of, unclosed, deepest}
use Rattle.pm_tokens.specs.Kids.{kids}
use Rattle.pm_tokens.specs.Faults.{attrs_fit, marks_fit, content_fits, pair_fits, last_high, StandsIn, Fault, Large, Deep, Pair, fault_unless, first_broken, no_marks, top_fault, token_fits, top_fits}

-- The token at place n is the first that the test refuses. The test has the tokens before, the token, and those after.
pub record IsFirst (test : List Token → Token → List Token → Bool) (ts : List Token) (n : ℕ) : Type 0 where
  pub before : List Token
  pub token : Token
  pub behind : List Token
  pub stands : StandsIn ts before token behind
  pub place : length before ≡ n
  pub refused : test before token behind ≡ false
  pub earlier : (b : List Token) (t : Token) (f : List Token) → StandsIn ts b t f → length b < n → test b t f ≡ true

-- ---- the tests

-- no unit is broken here
abbrev pub pair_at : Option Marks → List Token → Token → List Token → Bool
pair_at high before t behind = pair_fits (last_high high before) t behind

-- the token has none of these faults
abbrev pub sound_at : Schema → List ℕ → List Token → Token → List Token → Bool
sound_at s ps before t behind = attrs_fit s t && marks_fit s (head_of (unclosed ps before)) t && content_fits s t behind

-- which of the three it is, at a place
abbrev pub FaultAt : Bool → Bool → Bool → ℕ → Fault → Type 0
FaultAt attrs marks content at f = fault_unless attrs marks content at ≡ Some f

-- the token has no fault of any kind
abbrev pub fits_at : Schema → List ℕ → Option Marks → List Token → Token → List Token → Bool
fits_at s ps high before t behind = token_fits s (head_of (unclosed ps before)) (last_high high before) t behind

-- ---- the first fault

-- the first token with a fault of attributes, marks or content, and which of the three it is
pub record FirstFault (s : Schema) (ps : List ℕ) (at : ℕ) (ts : List Token) (f : Fault) : Type 0 where
  pub place : ℕ
  pub first : IsFirst (sound_at s ps) ts place
  pub which : FaultAt (attrs_fit s first.token) (marks_fit s (head_of (unclosed ps first.before)) first.token) (content_fits s first.token first.behind) (at + place) f

-- The fault of a document that is not valid. It is too large; or else too deep; or else its first broken unit; or else a
-- fault of the top node; or else of the first token that has one. There attributes come before marks, and marks before content.
pub data IsFault (s : Schema) (d : Doc) : Fault → Type 0 where
  large : max_size s < length d.tokens → IsFault s d Large
  deep : length d.tokens ≤ max_size s → max_depth < deepest 0 d.tokens → IsFault s d Deep
  broken : length d.tokens ≤ max_size s → deepest 0 d.tokens ≤ max_depth → (n : ℕ) → IsFirst (pair_at None) d.tokens n → IsFault s d (Pair (1 + n))
  top : length d.tokens ≤ max_size s → deepest 0 d.tokens ≤ max_depth → first_broken 1 None d.tokens ≡ None
      → (f : Fault) → FaultAt (node_attrs s d.kind d.attrs) (no_marks d.marks) (s.accepts d.kind (kids s.text 0 None d.tokens)) 0 f → IsFault s d f
  inside : length d.tokens ≤ max_size s → deepest 0 d.tokens ≤ max_depth → first_broken 1 None d.tokens ≡ None → top_fault s d ≡ None
      → (f : Fault) → FirstFault s (d.kind ∷ []) 1 d.tokens f → IsFault s d f

-- the least faulty place of a document: the top node's, or that of the first token that has a fault
abbrev pub IsLeastPlace : Schema → Doc → ℕ → Type 0
IsLeastPlace s d p = ((top_fits s d ≡ false) × (p ≡ 0)) ⊎ ((top_fits s d ≡ true) × ((q : ℕ) × IsFirst (fits_at s (d.kind ∷ []) None) d.tokens q × (p ≡ suc q)))
