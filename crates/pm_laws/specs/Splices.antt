-- What a step does to the tokens, in words of its map: the ranges of the map go, and the tokens of the step's slice come.
use Rattle.std.specs.Prelude.{◌≡◌, ℕ, ◌+◌, ◌-◌, List, [], ◌∷◌, ◌++◌, map, take, drop, Ok}
use Rattle.pm_map.specs.declared.step_map.Span.{Span}
use Rattle.pm_tokens.specs.Tokens.{Token, Open, Close, Leaf, CodeUnit, Doc}
use Rattle.pm_tokens.specs.Faults.{Valid}
use Rattle.pm_tokens.specs.Schemas.{Schema}
use Rattle.pm_tokens.specs.Slices.{slice_tokens}
use Rattle.pm_meaning.specs.Steps.{Step, Replace, ReplaceAround, AddMark, RemoveMark, AddNodeMark, RemoveNodeMark, Attr, DocAttr}
use Rattle.pm_meaning.specs.Maps.{step_map}
use Rattle.pm_meaning.specs.Outcomes.{outcome}

-- The items once these ranges were replaced, which stand in order from place `at` on: those in a range go, as many as its new size come
-- in their place, which are the first ones of `put` that have not come, and all others stay.
abbrev pub replaced_from : {A : Type 0} → List Span → ℕ → List A → List A → List A
replaced_from [] at put xs = xs
replaced_from (r ∷ rs) at put xs =
    take (r.start - at) xs ++ (take r.new_size put ++ replaced_from rs (r.start + r.old_size) (drop r.new_size put) (drop ((r.start - at) + r.old_size) xs))

-- the token without attributes and marks
abbrev pub bare : Token → Token
bare (Open k a m) = Open k [] []
bare Close = Close
bare (Leaf k a m) = Leaf k [] []
bare (CodeUnit u m) = CodeUnit u []

-- the tokens that a step puts in: those of its slice
abbrev pub put_in : Step → List Token
put_in (Replace from to sl structure) = slice_tokens sl
put_in (ReplaceAround from to gap_from gap_to sl insert structure) = slice_tokens sl
put_in (AddMark from to mark) = []
put_in (RemoveMark from to mark) = []
put_in (AddNodeMark pos mark) = []
put_in (RemoveNodeMark pos mark) = []
put_in (Attr pos name value) = []
put_in (DocAttr name value) = []

-- The next tokens are the earlier ones, in which the ranges of the step's map were replaced by the tokens of its slice: of a replace
-- and a replaceAround with attributes and marks, and of any other step without them.
abbrev pub Splices : Step → List Token → List Token → Type 0
Splices (Replace from to sl structure) ts next = next ≡ replaced_from (step_map (Replace from to sl structure)) 0 (slice_tokens sl) ts
Splices (ReplaceAround from to gap_from gap_to sl insert structure) ts next =
    next ≡ replaced_from (step_map (ReplaceAround from to gap_from gap_to sl insert structure)) 0 (slice_tokens sl) ts
Splices (AddMark from to mark) ts next = map bare next ≡ map bare ts
Splices (RemoveMark from to mark) ts next = map bare next ≡ map bare ts
Splices (AddNodeMark pos mark) ts next = map bare next ≡ map bare ts
Splices (RemoveNodeMark pos mark) ts next = map bare next ≡ map bare ts
Splices (Attr pos name value) ts next = map bare next ≡ map bare ts
Splices (DocAttr name value) ts next = next ≡ ts

-- Of each step that applies to a valid document: what its map says of the tokens is so.
pub record MapsTellTokens (s : Schema) : Type 0 where
  pub splices : (c : Step) (d next : Doc) → Valid s d → outcome s c d ≡ Ok next → Splices c d.tokens next.tokens
  pub bares : (c : Step) (d next : Doc) → Valid s d → outcome s c d ≡ Ok next
      → map bare next.tokens ≡ replaced_from (step_map c) 0 (map bare (put_in c)) (map bare d.tokens)
