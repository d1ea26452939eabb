-- Places of faults.
use Rattle.std.specs.Prelude.{ℕ, min, Option, Some, None}
use Rattle.pm_tokens.specs.Faults.{Fault, Large, Deep, Pair, BadAttrs, BadMarks, BadContent}

-- the place of a fault that has one
abbrev pub place_of_fault : Fault → Option ℕ
place_of_fault Large = None
place_of_fault Deep = None
place_of_fault (Pair at) = Some at
place_of_fault (BadAttrs at) = Some at
place_of_fault (BadMarks at) = Some at
place_of_fault (BadContent at) = Some at

abbrev pub place_in : Option Fault → Option ℕ
place_in None = None
place_in (Some f) = place_of_fault f

-- the lesser of two places that may be there
abbrev pub least : Option ℕ → Option ℕ → Option ℕ
least None right = right
least (Some a) None = Some a
least (Some a) (Some b) = Some (min a b)
