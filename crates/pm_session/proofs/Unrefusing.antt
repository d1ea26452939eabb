-- What is told of an answer that refuses no step.
use Rattle.std.specs.Prelude.{◌≡◌}
use Rattle.std.proofs.Common.{sym, subst}
use Rattle.pm_authority.specs.declared.message.Answer.{Answer}
use Rattle.pm_authority.specs.declared.message.Answer.TheVariants.{Accepted, WrongVersion, StepRefused, Entries}
use Rattle.pm_session.specs.declared.outcome.AnswerSummary.{AnswerSummary}
use Rattle.pm_session.specs.Events.{told}
use Rattle.pm_session.specs.Refusals.{RefusesNoStep, TellsNoRefusal}

module _ {Rules Doc Reason C : Type 0} where
  tells-none : (a : Answer C Rules Doc Reason) → RefusesNoStep a → TellsNoRefusal (told a)
  tells-none (Accepted from count) h = tt
  tells-none (WrongVersion n) h = tt
  tells-none (StepRefused index reason) h = h
  tells-none (Entries since entries) h = tt

  pub told-none : (a : Answer C Rules Doc Reason) (t : AnswerSummary C Rules Doc Reason) → t ≡ told a → RefusesNoStep a → TellsNoRefusal t
  told-none a t is h = subst TellsNoRefusal (sym is) (tells-none a h)
