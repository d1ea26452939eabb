-- The children of a node, seen in the tokens of its content.
use Rattle.std.specs.Prelude.{◌≡◌, ℕ, zero, suc, Bool, false, cond, Option, Some, None, List, [], ◌∷◌, ◌++◌}
use Rattle.pm_marks.specs.Sets.{same_marks}
use Rattle.pm_tokens.specs.Tokens.{Attrs, Marks, Token, Open, Close, Leaf, CodeUnit}
use Rattle.pm_attrs.specs.Attrs.{same_attrs}

-- the tokens of a text: its units, each with its marks
abbrev pub text_tokens : Marks → List ℕ → List Token
text_tokens m [] = []
text_tokens m (u ∷ us) = CodeUnit u m ∷ text_tokens m us

-- the tokens do not go on a text with the marks m
abbrev pub EndsText : Marks → List Token → Type 0
EndsText m [] = Unit {0}
EndsText m (Open k a n ∷ ts) = Unit {0}
EndsText m (Close ∷ ts) = Unit {0}
EndsText m (Leaf k a n ∷ ts) = Unit {0}
EndsText m (CodeUnit u n ∷ ts) = m ≡ n → ⊥

-- These tokens are nodes of these types, one after another: none; or a leaf before such a list; or an open, nodes, their
-- close, and then such a list; or a text of at least one unit before such a list that does not go on the text.
pub data Forest (text : ℕ) : List Token → List ℕ → Type 0 where
  empty : Forest text [] []
  atom : (k : ℕ) (a : Attrs) (m : Marks) {ts : List Token} {ks : List ℕ} → Forest text ts ks → Forest text (Leaf k a m ∷ ts) (k ∷ ks)
  block : (k : ℕ) (a : Attrs) (m : Marks) {inner ts : List Token} {js ks : List ℕ} → Forest text inner js → Forest text ts ks → Forest text (Open k a m ∷ (inner ++ (Close ∷ ts))) (k ∷ ks)
  run : (m : Marks) (u : ℕ) (us : List ℕ) {ts : List Token} {ks : List ℕ} → Forest text ts ks → EndsText m ts → Forest text (text_tokens m (u ∷ us) ++ ts) (text ∷ ks)

-- the unit goes on the text with the marks r, if a text is before it
abbrev pub goes_on : Option Marks → Marks → Bool
goes_on None m = false
goes_on (Some r) m = same_marks same_attrs r m

-- The same computed: the types of the nodes up to the close that ends them. d is how deep the reading is below them, and
-- r has the marks of the unit before, if one was.
abbrev pub kids : ℕ → ℕ → Option Marks → List Token → List ℕ
kids text d r [] = []
kids text zero r (Open k a m ∷ ts) = k ∷ kids text 1 None ts
kids text (suc d) r (Open k a m ∷ ts) = kids text (suc (suc d)) None ts
kids text zero r (Close ∷ ts) = []
kids text (suc d) r (Close ∷ ts) = kids text d None ts
kids text zero r (Leaf k a m ∷ ts) = k ∷ kids text zero None ts
kids text (suc d) r (Leaf k a m ∷ ts) = kids text (suc d) None ts
kids text zero r (CodeUnit u m ∷ ts) = cond (goes_on r m) (kids text zero (Some m) ts) (text ∷ kids text zero (Some m) ts)
kids text (suc d) r (CodeUnit u m ∷ ts) = kids text (suc d) None ts

-- the next token goes on a text with the marks m
abbrev pub next_goes_on : Marks → List Token → Bool
next_goes_on m (CodeUnit u n ∷ ts) = same_marks same_attrs m n
next_goes_on m _ = false

-- a token more at the front of the first part
abbrev pub with_first : Token → List (List Token) → List (List Token)
with_first t [] = (t ∷ []) ∷ []
with_first t (p ∷ ps) = (t ∷ p) ∷ ps

-- The tokens of each child: each leaf, each open up to its close, and each longest run of neighbouring units with equal
-- marks. d is how deep the reading is below the children; the first part is then the rest of a child.
abbrev pub parts : ℕ → List Token → List (List Token)
parts d [] = []
parts d (Open k a m ∷ ts) = with_first (Open k a m) (parts (suc d) ts)
parts zero (Close ∷ ts) = []
parts (suc zero) (Close ∷ ts) = (Close ∷ []) ∷ parts zero ts
parts (suc (suc d)) (Close ∷ ts) = with_first Close (parts (suc d) ts)
parts zero (Leaf k a m ∷ ts) = (Leaf k a m ∷ []) ∷ parts zero ts
parts (suc d) (Leaf k a m ∷ ts) = with_first (Leaf k a m) (parts (suc d) ts)
parts zero (CodeUnit u m ∷ ts) = cond (next_goes_on m ts) (with_first (CodeUnit u m) (parts zero ts)) ((CodeUnit u m ∷ []) ∷ parts zero ts)
parts (suc d) (CodeUnit u m ∷ ts) = with_first (CodeUnit u m) (parts (suc d) ts)

-- the tokens of the children of this content
abbrev pub children : List Token → List (List Token)
children ts = parts zero ts
