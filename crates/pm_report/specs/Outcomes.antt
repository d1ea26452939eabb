-- What became of a line, in words.
use Rattle.std.specs.Prelude.{ℕ, List, [], ◌∷◌, ◌++◌, codes, decimal, Option, Some, None}
use Rattle.pm_change.specs.declared.no_step.NoStep.TheVariants.{Range, NotThere, NoFit}
use Rattle.pm_tokens.specs.Tokens.{Doc}
use Rattle.pm_schema.specs.declared.schema.Schema.{Schema}
use Rattle.pm_meaning.specs.Steps.{Step}
use Rattle.pm_meaning.specs.declared.reason.Reason.{Reason}
use Rattle.pm_meaning.specs.declared.reason.Reason.TheVariants as reason
use Rattle.pm_client.specs.declared.taken.Taken.{Taken}
use Rattle.pm_client.specs.declared.taken.Taken.TheVariants.{Confirmed, Rebased, Stale, Refused as TakenRefused}
use Rattle.pm_ops.specs.declared.op.Op.{Op}
use Rattle.pm_session.specs.declared.line.Line.{Line}
use Rattle.pm_session.specs.declared.outcome.AnswerSummary.{AnswerSummary}
use Rattle.pm_session.specs.declared.outcome.AnswerSummary.TheVariants.{Accepted, Version, Refused as ToldRefused, Entries}
use Rattle.pm_session.specs.declared.outcome.Outcome.{Outcome}
use Rattle.pm_session.specs.declared.outcome.Outcome.TheVariants.{Made, Nothing, NoStep, Refused, CursorAt, Composed, Answered, Took, Exchanged, Entered}
use Rattle.pm_report.specs.Words.{◌&◌, line}
use Rattle.pm_report.specs.declared.outcomes.Numbered.{Numbered}

-- the number of a reason, and the place of a fault
abbrev pub reason_text : Reason → List ℕ
reason_text reason.Range = codes "1"
reason_text reason.Structure = codes "2"
reason_text reason.Gap = codes "3"
reason_text reason.Depth = codes "4"
reason_text reason.Pair = codes "5"
reason_text reason.Join = codes "6"
reason_text reason.Large = codes "7"
reason_text reason.Deep = codes "8"
reason_text (reason.Content at) = codes "9" & decimal at
reason_text reason.NoNode = codes "10"
reason_text reason.NoAttribute = codes "11"
reason_text reason.BadValue = codes "12"
reason_text reason.NotInSchema = codes "13"

-- a step that does not apply, counted from 0
abbrev pub refused_text : ℕ → Reason → List ℕ
refused_text index reason = codes "refused" & decimal index & reason_text reason

abbrev pub told_text : AnswerSummary Step Schema Doc Reason → List ℕ
told_text (Accepted from count) = codes "accepted" & decimal from & decimal count
told_text (Version n) = codes "version" & decimal n
told_text (ToldRefused index reason) = refused_text index reason
told_text (Entries since count) = codes "entries" & decimal since & decimal count

abbrev pub taken_text : Taken → List ℕ
taken_text (Confirmed own) = codes "confirmed" & decimal own
taken_text (Rebased own foreign dropped) = codes "rebased" & decimal own & decimal foreign & decimal dropped
taken_text Stale = codes "stale"
taken_text TakenRefused = codes "kept"

-- what became of an exchange's answer
abbrev pub end_text : Option Taken → List ℕ
end_text None = codes "lost"
end_text (Some taken) = taken_text taken

abbrev pub outcome_text : Outcome Step Schema Doc Reason → List ℕ
outcome_text (Made count) = codes "made" & decimal count
outcome_text Nothing = codes "nothing"
outcome_text (NoStep Range) = codes "no range"
outcome_text (NoStep NotThere) = codes "no place"
outcome_text (NoStep NoFit) = codes "no fit"
outcome_text (Refused index reason) = refused_text index reason
outcome_text (CursorAt p) = codes "cursor" & decimal p
outcome_text (Composed n) = codes "composed" & decimal n
outcome_text (Answered told) = told_text told
outcome_text (Took taken) = taken_text taken
outcome_text (Exchanged told taken) = told_text told ++ codes ";" & end_text taken
outcome_text (Entered version) = codes "entered" & decimal version

-- the outcomes of these lines, each with its line's number
abbrev pub with_numbers : List (Line Op Step) → List (Outcome Step Schema Doc Reason) → List Numbered
with_numbers [] outcomes = []
with_numbers (l ∷ lines) [] = []
with_numbers (l ∷ lines) (o ∷ outcomes) = record { number = l.number; outcome = o } ∷ with_numbers lines outcomes

-- for each outcome its line's number and what it says
abbrev pub outcome_lines : List Numbered → List ℕ
outcome_lines [] = []
outcome_lines (o ∷ outcomes) = line (decimal o.number & outcome_text o.outcome) ++ outcome_lines outcomes
