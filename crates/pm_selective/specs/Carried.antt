-- Steps carried round an event, and the tokens that undoing the event leaves.
use Rattle.std.specs.Prelude.{◌≡◌, List, [], ◌∷◌, ◌++◌, take, drop, Option, Some, None}
use Rattle.pm_map.specs.declared.step_map.Span.{Span}
use Rattle.pm_map.specs.declared.mapping.Mirrored.{Mirrored}
use Rattle.pm_map.specs.Moves.{inverted_ranges}
use Rattle.pm_map.specs.Mirrors.{entry, enclosed}
use Rattle.pm_tokens.specs.Tokens.{Token}
use Rattle.pm_tokens.specs.Scan.{part}
use Rattle.pm_tokens.specs.Slices.{slice_tokens}
use Rattle.pm_meaning.specs.Steps.{Step, Replace, ReplaceAround, AddMark, RemoveMark, AddNodeMark, RemoveNodeMark, Attr, DocAttr}
use Rattle.pm_meaning.specs.Maps.{step_map, carry}
use Rattle.pm_selective.specs.Apart.{backs}

-- the step is a replace, or a replaceAround whose gap is not pinched
abbrev pub IsSplice : Step → Type 0
IsSplice (Replace from to sl structure) = Unit {0}
IsSplice (ReplaceAround from to gap_from gap_to sl insert structure) = gap_from ≡ gap_to → ⊥
IsSplice (AddMark from to mark) = ⊥
IsSplice (RemoveMark from to mark) = ⊥
IsSplice (AddNodeMark p mark) = ⊥
IsSplice (RemoveNodeMark p mark) = ⊥
IsSplice (Attr p name value) = ⊥
IsSplice (DocAttr name value) = ⊥

abbrev pub AreSplices : List Step → Type 0
AreSplices [] = Unit {0}
AreSplices (c ∷ cs) = IsSplice c × AreSplices cs

-- the tokens that such a step makes of these
abbrev pub splice : Step → List Token → List Token
splice (Replace from to sl structure) ts = take from ts ++ (slice_tokens sl ++ drop to ts)
splice (ReplaceAround from to gap_from gap_to sl insert structure) ts =
    take from ts ++ (take insert (slice_tokens sl) ++ (part gap_from gap_to ts ++ (drop insert (slice_tokens sl) ++ drop to ts)))
splice (AddMark from to mark) ts = ts
splice (RemoveMark from to mark) ts = ts
splice (AddNodeMark p mark) ts = ts
splice (RemoveNodeMark p mark) ts = ts
splice (Attr p name value) ts = ts
splice (DocAttr name value) ts = ts

-- the tokens after all these steps, one after another
abbrev pub splices : List Step → List Token → List Token
splices [] ts = ts
splices (c ∷ cs) ts = splices cs (splice c ts)

abbrev pub step_maps : List Step → List (List Span)
step_maps [] = []
step_maps (c ∷ cs) = step_map c ∷ step_maps cs

-- a mapping of these maps without pairs
abbrev pub unpaired : List (List Span) → List Mirrored
unpaired [] = []
unpaired (m ∷ ms) = entry m None ∷ unpaired ms

-- a step before others, where there are all
abbrev pub in_front : Step → Option (List Step) → Option (List Step)
in_front c None = None
in_front c (Some cs) = Some (c ∷ cs)

abbrev pub go_on : Option Step → (Step → Option (List Step)) → Option (List Step)
go_on None f = None
go_on (Some c) f = f c

-- Each step carried over the mapping. For the next step the mapping has the inverted map of the step at the front, and the
-- map of its carried form after as the mirror. None where a step is lost.
abbrev pub carried : List Mirrored → List Step → Option (List Step)
carried ms [] = Some []
carried ms (c ∷ cs) = go_on (carry c ms) (λ d. in_front d (carried (enclosed ms (inverted_ranges (step_map c)) (step_map d)) cs))

abbrev pub spliced_on : Option (List Step) → List Token → Option (List Token)
spliced_on None ts = None
spliced_on (Some cs) ts = Some (splices cs ts)

-- The later steps carried and spliced in order onto the tokens before the event. Each is carried over the inverted maps of the
-- later steps before it, from the latest to the first; the event's inverted maps, from the latest to the first; and the maps of
-- the carried later steps before it. The inverted map of a later step is paired with the map of its own carried form.
abbrev pub left_tokens : (event later : List Step) → List Token → Option (List Token)
left_tokens event later ts = spliced_on (carried (unpaired (backs (step_maps event))) later) ts
