use Rattle.std.proofs.Common.{List, Result, sym, subst, ap}
use Rattle.pm_change.specs.declared.no_step.NoStep.{NoStep}
use Rattle.pm_meaning.specs.Steps.{Step}
use Rattle.pm_edit.specs.Ops.{AnswersList, answer_of, one, steps_of}
use Rattle.pm_edit.proofs.AnswerLaws.{none-as}
use Rattle.pm_edit.proofs.steps.steps_for.Goals as goal

pub returns-in-Ok : goal.returns-in-Ok
unfolding steps_of
returns-in-Ok c = subst (λ (a : Result (List Step) NoStep). AnswersList a c.list_of.result) (sym (ap one c.in-Ok.ensures)) c.list_of.ensures

pub returns-in-Err : goal.returns-in-Err
unfolding steps_of
returns-in-Err c = none-as (answer_of c.args.schema.now c.args.doc.now c.args.op.now) c.in-Err.error c.in-Err.ensures
