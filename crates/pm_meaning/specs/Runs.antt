-- The list of steps that gives back the marks of a document, run by run.
use Rattle.std.specs.Prelude.{ℕ, ◌+◌, Bool, true, false, ◌&&◌, not, List, [], ◌∷◌, ◌++◌, map, Option, Some, None}
use Rattle.pm_attrs.specs.Attrs.{same_attrs}
use Rattle.pm_marks.specs.Sets.{same_marks}
use Rattle.pm_tokens.specs.Tokens.{Marks, Token, marks_of}
use Rattle.pm_tokens.specs.Schemas.{Schema}
use Rattle.pm_meaning.specs.Steps.{Step, AddMark, RemoveMark, AddNodeMark, RemoveNodeMark}
use Rattle.pm_meaning.specs.Marked.{takes_marks}

-- in a range the new marks are removed in order, and then the old ones added in order
abbrev pub range_steps : ℕ → ℕ → Marks → Marks → List Step
range_steps from to old new = map (λ m. RemoveMark from to m) new ++ map (λ m. AddMark from to m) old

-- the same for one node
abbrev pub node_steps : ℕ → Marks → Marks → List Step
node_steps pos old new = map (λ m. RemoveNodeMark pos m) new ++ map (λ m. AddNodeMark pos m) old

-- A run of neighbouring tokens that had one set of marks and have another now: where it starts, and the two sets. Its
-- tokens are units, inline leaves and opens of inline atoms.
pub record Run : Type 0 where
  pub start : ℕ
  pub old : Marks
  pub new : Marks

-- the steps for a run that ends at a position
abbrev pub close_run : Option Run → ℕ → List Step
close_run None p = []
close_run (Some r) p = range_steps r.start p r.old r.new

-- a token with these sets goes on the run
abbrev pub continues : Option Run → Marks → Marks → Bool
continues None old new = false
continues (Some r) old new = same_marks same_attrs r.old old && same_marks same_attrs r.new new

-- The run after the token at p, which had the marks old and has the marks new. changed: these differ; takes: the token is one
-- of those in runs; on: it goes on the run.
abbrev pub next_run : (changed takes on : Bool) → Option Run → ℕ → Marks → Marks → Option Run
next_run false takes on run p old new = None
next_run true false on run p old new = None
next_run true true false run p old new = Some (record { start = p; old = old; new = new })
next_run true true true run p old new = run

-- the steps that are due at the token: those of a run that ends, and those of a node that is in no run
abbrev pub due : (changed takes on : Bool) → Option Run → ℕ → Marks → Marks → List Step
due false takes on run p old new = close_run run p
due true false on run p old new = close_run run p ++ node_steps p old new
due true true false run p old new = close_run run p
due true true true run p old new = []

-- the steps for the tokens from p on, by the old and the new tokens side by side
abbrev pub run_steps : Schema → ℕ → Option Run → List Token → List Token → List Step
run_steps s p run [] news = close_run run p
run_steps s p run (t ∷ ts) [] = close_run run p
run_steps s p run (t ∷ ts) (n ∷ ns) =
    let old = marks_of t in
    let new = marks_of n in
    let changed = not (same_marks same_attrs old new) in
    let on = continues run old new in
    due changed (takes_marks s t) on run p old new ++ run_steps s (p + 1) (next_run changed (takes_marks s t) on run p old new) ts ns
