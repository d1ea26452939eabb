-- Small documents, computed.
use Rattle.std.specs.Prelude.{◌≡◌, ℕ, pos, Bool, true, false, ◌&&◌, ◌||◌, ◌==◌, cond, List, [], ◌∷◌, Ok, Err, Some, None}
use Rattle.std.proofs.Common.{refl}
use Rattle.pm_value.specs.Plain.{int, null, truth}
use Rattle.pm_value.specs.Equal.{same_values}
use Rattle.pm_marks.specs.declared.mark.Mark.{Mark}
use Rattle.pm_marks.specs.Sets.{added}
use Rattle.pm_tokens.specs.Tokens.{Attrs, Token, Open, Close, CodeUnit, Doc}
use Rattle.pm_tokens.specs.Schemas.{Schema, Declared}
use Rattle.pm_tokens.specs.Slices.{Slice, cut}
use Rattle.pm_tokens.specs.Scan.{shared_depth}
use Rattle.pm_tokens.specs.Kids.{kids, children}
use Rattle.pm_tokens.specs.Faults.{fault, Pair, BadMarks, BadContent}
use Rattle.pm_meaning.specs.declared.reason.Reason.TheVariants as why
use Rattle.pm_meaning.specs.Steps.{Replace, ReplaceAround, AddMark, RemoveMark, AddNodeMark, Attr, DocAttr}
use Rattle.pm_meaning.specs.Outcomes.{outcome}
use Rattle.pm_meaning.specs.Inverses.{inverse}

abbrev each_is : ℕ → List ℕ → Bool
each_is k [] = true
each_is k (x ∷ xs) = (x == k) && each_is k xs

abbrev each_block : List ℕ → Bool
each_block [] = true
each_block (x ∷ xs) = ((x == 1) || (x == 3) || (x == 4)) && each_block xs

-- 0 is the top, 1 a paragraph, 2 the text, 3 a heading, 4 a quote
abbrev accepts : ℕ → List ℕ → Bool
accepts k xs = (((k == 0) || (k == 4)) && each_block xs) || (((k == 1) || (k == 3)) && each_is 2 xs)

abbrev starts : ℕ → List ℕ
starts k = cond (k == 2) [] (cond ((k == 1) || (k == 3)) (2 ∷ []) (1 ∷ 3 ∷ 4 ∷ []))

-- of a heading: a number
abbrev level : Declared
level = record { name = 108 ∷ []; kinds = Some (record { string = false; number = true; boolean = false; null = false }) }

abbrev schema : Schema
schema = record {
  text = 2;
  accepts = accepts;
  starts = starts;
  is_leaf = λ k. false;
  is_inline = λ k. k == 2;
  is_atom = λ k. false;
  allows = λ parent m. parent == 1;
  excludes = (true ∷ []) ∷ [];
  node_declares = λ k. cond (k == 3) (Some (level ∷ [])) (Some []);
  mark_declares = λ k. Some [];
  version = 1;
}

abbrev a : Token
a = CodeUnit 97 []

abbrev p : Token
p = Open 1 [] []

abbrev h : Token
h = Open 3 (int (pos 1) ∷ []) []

abbrev quote : Token
quote = Open 4 [] []

abbrev doc : List Token → Doc
doc ts = record { kind = 0; attrs = []; marks = []; tokens = ts }

abbrev nothing : Slice
nothing = record { content = []; open_start = 0; open_end = 0 }

abbrev two : Doc
two = doc (p ∷ a ∷ a ∷ Close ∷ h ∷ a ∷ Close ∷ [])

two-valid : fault schema two ≡ None
two-valid = refl

-- a paragraph and a heading are joined: the left type stays
joined : outcome schema (Replace 3 5 nothing true) two ≡ Ok (doc (p ∷ a ∷ a ∷ a ∷ Close ∷ []))
joined = refl

-- the cut of what parts them
parting : cut two.tokens 3 5 ≡ (let s : Slice = record { content = p ∷ Close ∷ h ∷ Close ∷ []; open_start = 1; open_end = 1 } in s)
parting = refl

joined-back : inverse schema (Replace 3 5 nothing true) two ≡ Replace 3 3 (cut two.tokens 3 5) false ∷ []
joined-back = refl

heading-back : outcome schema (Replace 3 3 (cut two.tokens 3 5) false) (doc (p ∷ a ∷ a ∷ a ∷ Close ∷ [])) ≡ Ok two
heading-back = refl

too-far : outcome schema (Replace 3 9 nothing false) two ≡ Err why.Range
too-far = refl

structure : outcome schema (Replace 1 3 nothing true) two ≡ Err why.Structure
structure = refl

uneven : outcome schema (Replace 3 4 nothing false) two ≡ Err why.Depth
uneven = refl

-- the gap cuts a node in two
torn : outcome schema (ReplaceAround 0 4 1 4 nothing 0 false) two ≡ Err why.Gap
torn = refl

-- a paragraph would be closed by the close of a quote
abbrev quoted : Doc
quoted = doc (p ∷ a ∷ Close ∷ quote ∷ p ∷ Close ∷ Close ∷ [])

unlike : outcome schema (Replace 2 4 nothing false) quoted ≡ Err why.Join
unlike = refl

-- two positions in one quote share it alone
shared : shared_depth (quote ∷ p ∷ a ∷ Close ∷ p ∷ a ∷ Close ∷ Close ∷ []) 2 6 ≡ 1
shared = refl

-- a text in the top node
faulty : outcome schema (Replace 0 0 (record { content = a ∷ []; open_start = 0; open_end = 0 }) false) two ≡ Err (why.Content 0)
faulty = refl

no-node : outcome schema (AddNodeMark 1 (record { kind = 0; attrs = [] })) two ≡ Err why.NoNode
no-node = refl

abbrev strong : Mark Attrs
strong = record { kind = 0; attrs = [] }

abbrev b : Token
b = CodeUnit 97 (strong ∷ [])

-- units with one set of marks are one text
texts : kids 2 0 None (a ∷ a ∷ b ∷ a ∷ []) ≡ 2 ∷ 2 ∷ 2 ∷ []
unfolding added same_values
texts = refl

nodes : children (p ∷ a ∷ Close ∷ a ∷ a ∷ b ∷ []) ≡ (p ∷ a ∷ Close ∷ []) ∷ (a ∷ a ∷ []) ∷ (b ∷ []) ∷ []
unfolding added same_values
nodes = refl

-- a heading's text may not bear the mark, and the place of its unit is one more than its position
bad-marks : fault schema (doc (p ∷ Close ∷ h ∷ b ∷ Close ∷ [])) ≡ Some (BadMarks 4)
unfolding added same_values
bad-marks = refl

-- a paragraph in a paragraph
bad-content : fault schema (doc (p ∷ p ∷ Close ∷ Close ∷ [])) ≡ Some (BadContent 1)
bad-content = refl

abbrev high : Token
high = CodeUnit 55357 []

abbrev low : Token
low = CodeUnit 56832 []

-- a broken pair comes before a content fault, also after it
bad-pair : fault schema (doc (a ∷ p ∷ high ∷ Close ∷ [])) ≡ Some (Pair 3)
bad-pair = refl

parted : outcome schema (Replace 2 2 nothing false) (doc (p ∷ high ∷ low ∷ Close ∷ [])) ≡ Err why.Pair
parted = refl

-- only the paragraph's text may bear the mark
strong-all : outcome schema (AddMark 0 7 strong) two ≡ Ok (doc (p ∷ b ∷ b ∷ Close ∷ h ∷ a ∷ Close ∷ []))
unfolding added same_values
strong-all = refl

strong-back : inverse schema (AddMark 0 7 strong) two ≡ RemoveMark 0 7 strong ∷ []
unfolding added same_values
strong-back = refl

-- the mark was on the first unit: the one step would take it there too, so the runs say what to do
abbrev half : Doc
half = doc (p ∷ b ∷ a ∷ Close ∷ [])

half-back : inverse schema (AddMark 1 3 strong) half ≡ RemoveMark 2 3 strong ∷ []
unfolding added same_values
half-back = refl

-- a heading is made a paragraph, and its way back
retyped : outcome schema (ReplaceAround 4 7 5 6 (record { content = p ∷ Close ∷ []; open_start = 0; open_end = 0 }) 1 true) two ≡ Ok (doc (p ∷ a ∷ a ∷ Close ∷ p ∷ a ∷ Close ∷ []))
retyped = refl

retyped-back : inverse schema (ReplaceAround 4 7 5 6 (record { content = p ∷ Close ∷ []; open_start = 0; open_end = 0 }) 1 true) two
    ≡ ReplaceAround 4 7 5 6 (record { content = h ∷ Close ∷ []; open_start = 0; open_end = 0 }) 1 true ∷ []
retyped-back = refl

-- a heading of level 2, and its way back
leveled : outcome schema (Attr 4 (108 ∷ []) (int (pos 2))) two ≡ Ok (doc (p ∷ a ∷ a ∷ Close ∷ Open 3 (int (pos 2) ∷ []) [] ∷ a ∷ Close ∷ []))
leveled = refl

leveled-back : inverse schema (Attr 4 (108 ∷ []) (int (pos 2))) two ≡ Attr 4 (108 ∷ []) (int (pos 1)) ∷ []
leveled-back = refl

no-node-there : outcome schema (Attr 5 (108 ∷ []) null) two ≡ Err why.NoNode
no-node-there = refl

-- a paragraph has no level, nor has the top
no-attribute : outcome schema (Attr 0 (108 ∷ []) null) two ≡ Err why.NoAttribute
no-attribute = refl

no-top-attribute : outcome schema (DocAttr (108 ∷ []) null) two ≡ Err why.NoAttribute
no-top-attribute = refl

bad-value : outcome schema (Attr 4 (108 ∷ []) (truth true)) two ≡ Err why.BadValue
bad-value = refl
