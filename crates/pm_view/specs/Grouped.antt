-- Tokens as parts.
use Rattle.std.specs.Prelude.{ℕ, cond, List, [], ◌∷◌}
use Rattle.pm_attrs.specs.Attrs.{same_attrs}
use Rattle.pm_marks.specs.Sets.{same_marks}
use Rattle.pm_tokens.specs.Tokens.{Marks}
use Rattle.pm_view.specs.Known.{Known, Opening, Closing, Single, Piece}
use Rattle.pm_view.specs.Seen.{Seen, Opens, Closes, Atom, Run}

-- a unit before parts: it goes on the run that is the first of them, where that has the same marks
abbrev pub with_piece : ℕ → Marks → List Seen → List Seen
with_piece u m [] = Run (u ∷ []) m ∷ []
with_piece u m (Opens h ∷ ps) = Run (u ∷ []) m ∷ (Opens h ∷ ps)
with_piece u m (Closes h ∷ ps) = Run (u ∷ []) m ∷ (Closes h ∷ ps)
with_piece u m (Atom h ∷ ps) = Run (u ∷ []) m ∷ (Atom h ∷ ps)
with_piece u m (Run us n ∷ ps) = cond (same_marks same_attrs m n) (Run (u ∷ us) m ∷ ps) (Run (u ∷ []) m ∷ (Run us n ∷ ps))

-- the parts of the tokens, each run with all neighbouring units of equal marks
abbrev pub grouped : List Known → List Seen
grouped [] = []
grouped (Opening h ∷ ts) = Opens h ∷ grouped ts
grouped (Closing h ∷ ts) = Closes h ∷ grouped ts
grouped (Single h ∷ ts) = Atom h ∷ grouped ts
grouped (Piece u m ∷ ts) = with_piece u m (grouped ts)
