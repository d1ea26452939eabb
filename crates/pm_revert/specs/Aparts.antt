-- Whether later steps lie apart from these, as a test.
use Rattle.std.specs.Prelude.{◌==◌, nat_lt, Bool, true, false, not, ◌&&◌, List, [], ◌∷◌, length}
use Rattle.pm_map.specs.declared.step_map.Span.{Span}
use Rattle.pm_meaning.specs.Steps.{Step, Replace, ReplaceAround, AddMark, RemoveMark, AddNodeMark, RemoveNodeMark, Attr, DocAttr}
use Rattle.pm_selective.specs.declared.telling.Reach.{Reach}
use Rattle.pm_selective.specs.Apart.{moved_reaches, event_ranges}
use Rattle.pm_selective.specs.Carried.{step_maps}
use Rattle.pm_selective.specs.Tests.{apart_from}

-- the step is a replace, or a replaceAround whose gap is not pinched
abbrev pub is_splice : Step → Bool
is_splice (Replace from to sl structure) = true
is_splice (ReplaceAround from to gap_from gap_to sl insert structure) = not (gap_from == gap_to)
is_splice (AddMark from to mark) = false
is_splice (RemoveMark from to mark) = false
is_splice (AddNodeMark p mark) = false
is_splice (RemoveNodeMark p mark) = false
is_splice (Attr p name value) = false
is_splice (DocAttr name value) = false

abbrev pub are_splices : List Step → Bool
are_splices [] = true
are_splices (c ∷ cs) = is_splice c && are_splices cs

-- Each of these maps lies apart from the stretches, moved over the maps before it.
abbrev pub are_apart_from : List Reach → List (List Span) → Bool
are_apart_from xs [] = true
are_apart_from xs (l ∷ ls) = apart_from l xs && are_apart_from (moved_reaches l xs) ls

-- The later steps lie apart from these, of which there is at least one, and each of all of them is a splice.
abbrev pub lies_apart : List Step → List Step → Bool
lies_apart es later =
    nat_lt 0 (length es)
    && (are_splices es && (are_splices later && are_apart_from (event_ranges (step_maps es) []) (step_maps later)))
