-- The parts of a view: an open, a close, a leaf, or a run of units.
use Rattle.std.specs.Prelude.{◌≡◌, ℕ, ◌<◌, List, [], ◌∷◌, ◌++◌, length, Option, Some, None}
use Rattle.pm_tokens.specs.Tokens.{Marks}
use Rattle.pm_view.specs.Known.{Head, Known, Opening, Closing, Single, pieces}

pub data Seen : Type 0 where
  Opens : (node : Head) → Seen
  Closes : (node : Head) → Seen
  Atom : (node : Head) → Seen
  Run : (units : List ℕ) (marks : Marks) → Seen

abbrev pub seen_tokens : Seen → List Known
seen_tokens (Opens h) = Opening h ∷ []
seen_tokens (Closes h) = Closing h ∷ []
seen_tokens (Atom h) = Single h ∷ []
seen_tokens (Run us m) = pieces m us

-- the tokens of parts, one after another
abbrev pub all_tokens : List Seen → List Known
all_tokens [] = []
all_tokens (p ∷ ps) = seen_tokens p ++ all_tokens ps

-- the next part does not go on a run with the marks m
abbrev pub EndsRun : Marks → List Seen → Type 0
EndsRun m [] = Unit {0}
EndsRun m (Opens h ∷ ps) = Unit {0}
EndsRun m (Closes h ∷ ps) = Unit {0}
EndsRun m (Atom h ∷ ps) = Unit {0}
EndsRun m (Run us n ∷ ps) = m ≡ n → ⊥

-- each run has a unit, and all neighbouring units with equal marks
abbrev pub AreWhole : List Seen → Type 0
AreWhole [] = Unit {0}
AreWhole (Opens h ∷ ps) = AreWhole ps
AreWhole (Closes h ∷ ps) = AreWhole ps
AreWhole (Atom h ∷ ps) = AreWhole ps
AreWhole (Run us m ∷ ps) = (0 < length us) × EndsRun m ps × AreWhole ps

-- The parts are those of a view: they have its tokens, in order, and each run is a whole one. In a document neighbouring
-- units with equal marks are of one text, so that a run has all units of a text that the view shows.
pub record ArePartsOf (shown : List Known) (ps : List Seen) : Type 0 where
  pub tokens : all_tokens ps ≡ shown
  pub whole : AreWhole ps

-- the first part is taken out; None where there is none
abbrev pub Taken : List Seen → Option Seen → List Seen → Type 0
Taken old None new = (old ≡ []) × (new ≡ [])
Taken old (Some p) new = old ≡ p ∷ new
