-- No line of a session is told the reason that its schema does not know a step.
use Rattle.std.specs.Prelude.{◌≡◌, ℕ, List, slice_get, Some, Ok}
use Rattle.pm_meaning.specs.declared.reason.Reason.{Reason}
use Rattle.pm_meaning.specs.declared.reason.Reason.TheVariants.{NotInSchema}
use Rattle.pm_tokens.specs.Tokens.{Doc}
use Rattle.pm_meaning.specs.Steps.{Step}
use Rattle.pm_schema.specs.declared.schema.Schema.{Schema}
use Rattle.pm_session.specs.declared.outcome.AnswerSummary.{AnswerSummary}
use Rattle.pm_session.specs.declared.outcome.AnswerSummary.TheVariants.{Refused as ToldRefused}
use Rattle.pm_session.specs.declared.outcome.Outcome.TheVariants.{Refused, Answered, Exchanged}
use Rattle.pm_head.specs.declared.form.Form.TheVariants as form
use Rattle.pm_script.specs.declared.session.Session.{Session}
use Rattle.pm_script.specs.Sessions.{SessionIs}
use Rattle.pm_call.specs.Playing.{LineOutcome, playing}

-- what is told of an answer is not this reason
abbrev pub TellsOther : AnswerSummary Step Schema Doc Reason → Type 0
TellsOther (ToldRefused index reason) = reason ≡ NotInSchema → ⊥
TellsOther told = Unit {0}

-- neither is it the reason of a step of an op that does not apply, nor of a step that was presented
abbrev pub IsOther : LineOutcome → Type 0
IsOther (Refused index reason) = reason ≡ NotInSchema → ⊥
IsOther (Answered told) = TellsOther told
IsOther (Exchanged told taken) = TellsOther told
IsOther o = Unit {0}

-- so it is with every line of every session that the input is
abbrev pub NoneIsToldUnknown : List ℕ → Type 0
NoneIsToldUnknown input =
    (s : Session) → SessionIs form.Plain input (Ok s) → (k : ℕ) (o : LineOutcome) → slice_get (playing s).0 k ≡ Some o → IsOther o
