-- The steps that give marks back, for one part of the tokens after another.
use Rattle.std.specs.Prelude.{◌≡◌, ℕ, ◌+◌, not, List, [], ◌∷◌, ◌++◌, Option, Some, None}
use Rattle.pm_attrs.specs.Attrs.{same_attrs}
use Rattle.pm_marks.specs.Sets.{same_marks}
use Rattle.pm_tokens.specs.Tokens.{Marks, Token, marks_of}
use Rattle.pm_tokens.specs.Schemas.{Schema}
use Rattle.pm_meaning.specs.Steps.{Step}
use Rattle.pm_meaning.specs.Marked.{takes_marks}
use Rattle.pm_meaning.specs.Runs as runs
use Rattle.pm_meaning.specs.Runs.{range_steps, node_steps, continues, due, next_run}
use Rattle.pm_apply.specs.declared.runs.Run.{Run}
use Rattle.pm_apply.specs.declared.runs.Runs.{Runs}
use Rattle.pm_apply.specs.declared.target.Target.{Target}
use Rattle.pm_apply.specs.declared.target.Target.TheVariants.{Range, Node}
use Rattle.pm_step.specs.declared.marking.Marking.{Marking}
use Rattle.pm_step.specs.Steps.{node_step, range_step}

-- the step that adds a mark to the target, or removes it
abbrev pub target_step : Target → Marking → Step
target_step (Range from to) marking = range_step marking from to
target_step (Node pos) marking = node_step marking pos

-- the steps that give the old marks back to the target
abbrev pub given_back : Target → Marks → Marks → List Step
given_back (Range from to) old new = range_steps from to old new
given_back (Node pos) old new = node_steps pos old new

-- the run, as the meaning of steps has it
abbrev pub run_of : Option Run → Option runs.Run
run_of None = None
run_of (Some r) = Some (record { start = r.start; old = r.old; new = r.new })

module _ (s : Schema) where
  -- the steps that are due at these tokens from p on, by the old and the new ones
  abbrev pub due_all : ℕ → Option runs.Run → List Token → List Token → List Step
  due_all p run [] news = []
  due_all p run (t ∷ ts) [] = []
  due_all p run (t ∷ ts) (n ∷ ns) =
      let old = marks_of t in
      let new = marks_of n in
      let changed = not (same_marks same_attrs old new) in
      let on = continues run old new in
      due changed (takes_marks s t) on run p old new ++ due_all (p + 1) (next_run changed (takes_marks s t) on run p old new) ts ns

  -- the run after these tokens
  abbrev pub run_after : ℕ → Option runs.Run → List Token → List Token → Option runs.Run
  run_after p run [] news = run
  run_after p run (t ∷ ts) [] = run
  run_after p run (t ∷ ts) (n ∷ ns) =
      let old = marks_of t in
      let new = marks_of n in
      let changed = not (same_marks same_attrs old new) in
      let on = continues run old new in
      run_after (p + 1) (next_run changed (takes_marks s t) on run p old new) ts ns

  -- the walk took these tokens from p on, which had the marks of `ts` and have those of `ns`
  pub record Took (p : ℕ) (ts ns : List Token) (old new : Runs) : Type 0 where
    pub steps : new.steps.items ≡ old.steps.items ++ due_all p (run_of old.run) ts ns
    pub run : run_of new.run ≡ run_after p (run_of old.run) ts ns
