-- A history that stands for a timeline of steps on documents.
use Rattle.std.specs.Prelude.{◌≡◌, ℕ, List, length, Option, Some, None}
use Rattle.pm_change.specs.Changes.{fold}
use Rattle.pm_tokens.specs.Tokens.{Doc}
use Rattle.pm_tokens.specs.Faults.{Valid}
use Rattle.pm_schema.specs.declared.schema.Schema.{Schema}
use Rattle.pm_schema.specs.Documents.{documents_of}
use Rattle.pm_meaning.specs.Steps.{Step}
use Rattle.pm_apply.specs.Changes.{meaning}
use Rattle.pm_history.specs.declared.branch.Event.{Event}
use Rattle.pm_history.specs.declared.branches.Branches.{Branches}
use Rattle.pm_history.specs.Standing.{IsHistoryOf}
use Rattle.pm_history.specs.Timelines.{Step as TimelineStep, changes_of}
use Rattle.pm_history.specs.Turns.{last_numbered}
use Rattle.pm_selective.specs.Histories.{IsApartIn}

-- The history of a client, which has drawn so many serials, stands for the timeline of these steps. They apply one after another
-- to the document `first`, which is valid under the schema, and lead to `last`.
pub record HasTimeline (h : Branches Step) : Type 0 where
  pub schema : Schema
  pub client : ℕ
  pub drawn : ℕ
  pub first : Doc
  pub last : Doc
  pub steps : List (TimelineStep Step)
  pub valid : Valid (documents_of schema.spec) first
  pub apply : fold meaning schema first (changes_of steps) ≡ Some last
  pub stands : IsHistoryOf meaning schema client drawn first steps h

-- how many steps the last event of this number has, where it lies apart in each timeline for which the history stands
abbrev pub IsCount : Branches Step → ℕ → Option ℕ → Type 0
IsCount h number None = (event : Event) (t : HasTimeline h) → last_numbered number h.undo ≡ Some event → IsApartIn event.names t.steps → ⊥
IsCount h number (Some n) =
    (event : Event) × (last_numbered number h.undo ≡ Some event) × (n ≡ length event.names) × ((t : HasTimeline h) → IsApartIn event.names t.steps)
