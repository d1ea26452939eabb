-- What a worker does by its lines, and what a history tells of the calls that it made.
use Rattle.std.specs.Prelude.{ℕ, List, [], ◌∷◌, cond, ◌==◌, Option, None, Some, Result}
use Rattle.pm_change.specs.Changes.{Meaning}
use Rattle.pm_change.specs.declared.no_step.NoStep.{NoStep}
use Rattle.pm_authority.specs.declared.message.Message.{Message}
use Rattle.pm_authority.specs.declared.message.Answer.{Answer}
use Rattle.pm_desk.specs.declared.history.Past.{Past}
use Rattle.pm_session.specs.declared.line.Line.{Line}
use Rattle.pm_session.specs.declared.member.Member.{Member}
use Rattle.pm_session.specs.declared.outcome.Outcome.{Outcome}
use Rattle.pm_session.specs.Events.{asked, finished}

module _ {M R Q A : Type 0} (next : R → M → Q → M) (reply : R → M → Q → A) (rules : R) where
  -- the replies to the calls of seat n, in the order of the history
  abbrev pub answers_of : ℕ → M → List (Past Q) → List A
  answers_of n machine [] = []
  answers_of n machine (e ∷ es) =
      cond (e.seat == n)
      (reply rules machine e.request ∷ answers_of n (next rules machine e.request) es)
      (answers_of n (next rules machine e.request) es)

-- what lines come to: the outcome of each, the messages that they presented, and the member after the last
pub record Work (C Rules Doc Reason : Type 0) : Type 0 where
  pub outcomes : List (Outcome C Rules Doc Reason)
  pub messages : List (Message C)
  pub member : Member C Rules Doc Reason

abbrev pub with_message : {C : Type 0} → Option (Message C) → List (Message C) → List (Message C)
with_message None messages = messages
with_message (Some message) messages = message ∷ messages

module _ {Rules Doc Reason C : Type 0} where
  -- of the answers that are to come, the one to this message, where there is a message
  abbrev pub answer_to : Option (Message C) → List (Answer C Rules Doc Reason) → Option (Answer C Rules Doc Reason)
  answer_to None answers = None
  answer_to (Some message) [] = None
  answer_to (Some message) (answer ∷ answers) = Some answer

  -- the answers that are then to come
  abbrev pub answers_after : Option (Message C) → List (Answer C Rules Doc Reason) → List (Answer C Rules Doc Reason)
  answers_after None answers = answers
  answers_after (Some message) [] = []
  answers_after (Some message) (answer ∷ answers) = answers

module _ {Rules Doc Reason C : Type 0} (m : Meaning Rules Doc Reason C) (rules : Rules) {Op : Type 0} (makes : Doc → Op → Result (List C) NoStep) where
  -- What a member does by these lines, where its messages get these answers one after another. It speaks of no authority:
  -- a line reads and writes its own member alone, and the answer that came.
  abbrev pub works : List (Line Op C) → Member C Rules Doc Reason → List (Answer C Rules Doc Reason) → Work C Rules Doc Reason
  works [] x answers = record { outcomes = []; messages = []; member = x }
  works (line ∷ lines) x answers =
      let message = asked line.act x in
      let p = finished m rules makes line.act x (answer_to message answers) in
      let rest = works lines p.1 (answers_after message answers) in
      record { outcomes = p.0 ∷ rest.outcomes; messages = with_message message rest.messages; member = rest.member }
