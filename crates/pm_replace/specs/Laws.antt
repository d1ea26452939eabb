-- What holds of replacing.
use Rattle.std.specs.Prelude.{◌≡◌, ◌≤◌, ℕ, ◌+◌, Bool, false, [], ◌∷◌, ◌++◌, length, take, drop, Ok}
use Rattle.pm_tokens.specs.Tokens.{Doc, with_tokens}
use Rattle.pm_tokens.specs.Scan.{parts_pair}
use Rattle.pm_tokens.specs.Schemas.{Schema}
use Rattle.pm_tokens.specs.Slices.{Slice, slice_tokens, slice_size, cut}
use Rattle.pm_tokens.specs.Faults.{Valid}
use Rattle.pm_slice.specs.Sides.{no_slice}
use Rattle.pm_meaning.specs.Steps.{Replace, ReplaceAround}
use Rattle.pm_meaning.specs.Outcomes.{outcome}
use Rattle.pm_meaning.specs.Inverses.{inverse, around_back}

-- the result has the tokens before `from`, the slice's own, and those from `to` on
abbrev pub KeepsTheRest : Schema → Type 0
KeepsTheRest s =
    (d next : Doc) (from to : ℕ) (sl : Slice) (structure : Bool)
    → Valid s d → outcome s (Replace from to sl structure) d ≡ Ok next
    → next ≡ with_tokens d (take from d.tokens ++ (slice_tokens sl ++ drop to d.tokens))

-- the result is valid
abbrev pub StaysValid : Schema → Type 0
StaysValid s =
    (d next : Doc) (from to : ℕ) (sl : Slice) (structure : Bool)
    → Valid s d → outcome s (Replace from to sl structure) d ≡ Ok next → Valid s next

-- a replace of from..to by the cut of from..to gives the document back, where neither position parts a pair
abbrev pub CutGivesBack : Schema → Type 0
CutGivesBack s =
    (d : Doc) (from to : ℕ)
    → Valid s d → from ≤ to → to ≤ length d.tokens → parts_pair d.tokens from ≡ false → parts_pair d.tokens to ≡ false
    → outcome s (Replace from to (cut d.tokens from to) false) d ≡ Ok d

-- a replace of an empty range by the empty slice gives the document back, where the position does not part a pair
abbrev pub NothingGivesBack : Schema → Type 0
NothingGivesBack s =
    (d : Doc) (at : ℕ)
    → Valid s d → at ≤ length d.tokens → parts_pair d.tokens at ≡ false
    → outcome s (Replace at at no_slice false) d ≡ Ok d

-- where a replace applies, what it cut out can be put back in place of what it put in, and gives the document back
abbrev pub PutsBack : Schema → Type 0
PutsBack s =
    (d next : Doc) (from to : ℕ) (sl : Slice) (structure : Bool)
    → Valid s d → outcome s (Replace from to sl structure) d ≡ Ok next
    → outcome s (Replace from (from + slice_size sl) (cut d.tokens from to) false) next ≡ Ok d

-- Where a replaceAround applies, the one step that undoes it applies right after it, and gives the document back: it puts what
-- was cut out before and after the gap back around the gap, in place of what was put in there.
abbrev pub AroundPutsBack : Schema → Type 0
AroundPutsBack s =
    (d next : Doc) (from to gap_from gap_to : ℕ) (sl : Slice) (insert : ℕ) (structure : Bool)
    → Valid s d → outcome s (ReplaceAround from to gap_from gap_to sl insert structure) d ≡ Ok next
    → (inverse s (ReplaceAround from to gap_from gap_to sl insert structure) d ≡ around_back d from to gap_from gap_to sl insert structure ∷ [])
    × (outcome s (around_back d from to gap_from gap_to sl insert structure) next ≡ Ok d)
