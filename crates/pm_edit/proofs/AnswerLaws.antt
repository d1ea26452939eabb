-- An answer of one step, as a list.
use Rattle.std.specs.Prelude.{◌≡◌, List, [], ◌∷◌, ◌++◌, map, Result, Ok, Err}
use Rattle.std.proofs.Common.{ap, sym, ◌∙◌, subst}
use Rattle.pm_change.specs.declared.no_step.NoStep.{NoStep}
use Rattle.pm_change.specs.declared.no_step.MakeError.{MakeError}
use Rattle.pm_change.specs.declared.no_step.MakeError.TheVariants.{NoStep as NoneMade, NoMemory}
use Rattle.pm_tokens.specs.Tokens.{Doc}
use Rattle.pm_schema.specs.declared.schema.Schema.{Schema}
use Rattle.pm_meaning.specs.Steps as steps
use Rattle.pm_step.specs.declared.step.Step.{Step}
use Rattle.pm_step.specs.Steps.{step_of}
use Rattle.pm_ops.specs.declared.op.Op.{Op}
use Rattle.pm_edit.specs.declared.edited.Edited.{Edited}
use Rattle.pm_edit.specs.Edits.{Answer}
use Rattle.pm_edit.specs.Ops.{answer_of, one, steps_of, Answers, AnswersEdited, AnswersOne, AnswersList}

abbrev Listed : Type 0
Listed = Result (List steps.Step) NoStep

-- the step was put after no others
pub listed-is : (step : Step) (none items : List Step) → none ≡ [] → items ≡ none ++ (step ∷ []) → ◌≡◌ {A = Listed} (Ok (step_of step ∷ [])) (Ok (map step_of items))
listed-is step none items e h =
    let f : List Step → Listed = λ z. Ok (map step_of z) in
    sym (ap f (h ∙ ap (λ (z : List Step). z ++ (step ∷ [])) e))

-- what is no step is no list of steps
pub none-as : (a : Answer) (e : MakeError) → Answers a (Err e) → AnswersList (one a) (Err e)
none-as a (NoneMade reason) h = ap one h
none-as a NoMemory h = tt

-- a step that comes with its document, as the one step of a list
as-one : (a : Answer) (r : Result Edited MakeError) → AnswersEdited a r → AnswersOne (one a) r
as-one a (Ok edited) h = ap one h
as-one a (Err (NoneMade reason)) h = ap one h
as-one a (Err NoMemory) h = tt

-- of an op, which is this one
pub op-one : (s : Schema) (d : Doc) (o is : Op) (r : Result Edited MakeError) → o ≡ is → AnswersEdited (answer_of s d is) r → AnswersOne (steps_of s d o) r
unfolding steps_of
op-one s d o is r e h = as-one (answer_of s d o) r (subst (λ x. AnswersEdited (answer_of s d x) r) (sym e) h)

pub found-one : (s : Schema) (d : Doc) (o : Op) (step : Step) → answer_of s d o ≡ Ok (step_of step) → steps_of s d o ≡ Ok (step_of step ∷ [])
unfolding steps_of
found-one s d o step h = ap one h

pub none-one : (s : Schema) (d : Doc) (o : Op) (e : MakeError) → Answers (answer_of s d o) (Err e) → AnswersOne (steps_of s d o) (Err e)
unfolding steps_of
none-one s d o (NoneMade reason) h = ap one h
none-one s d o NoMemory h = tt
