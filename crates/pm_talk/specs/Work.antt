-- How much work steps are, in tokens: by their own positions and slices, so that it is known before any of them is applied.
use Rattle.std.specs.Prelude.{ℕ, ◌+◌, ◌-◌, min, fold, List, length}
use Rattle.pm_meaning.specs.Steps.{Step, Replace, ReplaceAround, AddMark, RemoveMark, AddNodeMark, RemoveNodeMark, Attr, DocAttr}

-- a sum, which stands still at 2^64 - 1
abbrev pub up_to : ℕ → ℕ → ℕ
up_to sum n = min 18446744073709551615 (sum + n)

-- the tokens from one position to another, so many of a slice's content, and one for the step itself
abbrev pub over : ℕ → ℕ → ℕ → ℕ
over from to size = up_to (up_to (to - from) size) 1

-- The work of a step: the tokens of its range, with those of a gap, and those of its slice's content. One that speaks to a single node
-- has neither.
abbrev pub work : Step → ℕ
work (Replace from to slice structure) = over from to (length slice.content)
work (ReplaceAround from to gap_from gap_to slice insert structure) = over from to (length slice.content)
work (AddMark from to mark) = over from to 0
work (RemoveMark from to mark) = over from to 0
work (AddNodeMark pos mark) = 1
work (RemoveNodeMark pos mark) = 1
work (Attr pos name value) = 1
work (DocAttr name value) = 1

-- that of all of them together
abbrev pub works : List Step → ℕ
works steps = fold (λ sum step. up_to sum (work step)) 0 steps
