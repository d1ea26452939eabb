-- No message that an editor composed is refused for a step.
use Rattle.std.specs.Prelude.{◌≡◌, ℕ, false, List, slice_get, Some}
use Rattle.pm_change.specs.Changes.{Meaning}
use Rattle.pm_authority.specs.declared.message.Message.{Message}
use Rattle.pm_authority.specs.declared.message.Answer.{Answer}
use Rattle.pm_authority.specs.declared.message.Answer.TheVariants.{StepRefused}
use Rattle.pm_authority.specs.Presents.{presented}
use Rattle.pm_client.specs.declared.client.Client.{Client}
use Rattle.pm_client.specs.Clients.{message_at}
use Rattle.pm_session.specs.declared.line.Act.{Act}
use Rattle.pm_session.specs.declared.line.Line.{Line}
use Rattle.pm_session.specs.declared.outcome.AnswerSummary.{AnswerSummary}
use Rattle.pm_session.specs.declared.outcome.AnswerSummary.TheVariants.{Refused as ToldRefused}
use Rattle.pm_session.specs.declared.outcome.Outcome.{Outcome}
use Rattle.pm_session.specs.declared.outcome.Outcome.TheVariants.{Answered, Exchanged}
use Rattle.pm_session.specs.declared.member.Member.TheVariants.{Editor}
use Rattle.pm_session.specs.Events.{State}
use Rattle.pm_session.specs.Suits.{is_forge}

module _ {Rules Doc Reason C : Type 0} where
  -- the answer refuses no step
  abbrev pub RefusesNoStep : Answer C Rules Doc Reason → Type 0
  RefusesNoStep (StepRefused index reason) = ⊥
  RefusesNoStep _ = Unit {0}

  -- what is told of an answer tells of no refused step
  abbrev pub TellsNoRefusal : AnswerSummary C Rules Doc Reason → Type 0
  TellsNoRefusal (ToldRefused index reason) = ⊥
  TellsNoRefusal _ = Unit {0}

  -- What became of a line by an editor: where it presented a message, the answer refused no step. An op whose own steps
  -- do not apply presents none.
  abbrev pub GetsNoRefusal : Outcome C Rules Doc Reason → Type 0
  GetsNoRefusal (Answered told) = TellsNoRefusal told
  GetsNoRefusal (Exchanged told taken) = TellsNoRefusal told
  GetsNoRefusal _ = Unit {0}

  -- An act and what became of it. Where a member that doesn't forge, and so is an editor, did it, its answer refused no step.
  -- What a raw client forges may be refused.
  abbrev pub EditorGetsNoRefusal : {Op : Type 0} → Act Op C → Outcome C Rules Doc Reason → Type 0
  EditorGetsNoRefusal act o = is_forge act ≡ false → GetsNoRefusal o

  -- so it is with each of these lines and its outcome
  abbrev pub NoEditorRefused : {Op : Type 0} → List (Line Op C) → List (Outcome C Rules Doc Reason) → Type 0
  NoEditorRefused {Op} lines outcomes =
      (k : ℕ) (line : Line Op C) (o : Outcome C Rules Doc Reason) → slice_get lines k ≡ Some line → slice_get outcomes k ≡ Some o → EditorGetsNoRefusal line.act o

-- Whichever of its messages an editor of the room presents next, the answer refuses no step.
abbrev pub NoMessageRefused : {Rules Doc Reason C : Type 0} → Meaning Rules Doc Reason C → Rules → State C Rules Doc Reason → Type 0
NoMessageRefused {Rules} {Doc} {Reason} {C} m rules s =
    (i j : ℕ) (c : Client C Rules Doc Reason) (message : Message C) → slice_get s.members i ≡ Some (Editor c) → message_at c j ≡ Some message
    → RefusesNoStep (presented m rules s.authority message).0
