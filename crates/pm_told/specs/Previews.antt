-- For private clauses: what taking others' steps comes to, as it is reckoned before anything changes.
use Rattle.std.specs.Prelude.{◌≡◌, ℕ, ◌+◌, List, ◌++◌, length, reverse, drop, Option, Some, None, IfSome}
use Rattle.pm_tokens.specs.Tokens.{Doc as Document}
use Rattle.pm_schema.specs.declared.schema.Schema.{Schema}
use Rattle.pm_schema.specs.declared.spec.SchemaSpec.{SchemaSpec}
use Rattle.pm_meaning.specs.Steps.{Step}
use Rattle.pm_apply.specs.Changes.{meaning}
use Rattle.pm_authority.specs.declared.named.Named.{Named}
use Rattle.pm_authority.specs.Runs.{changes_of, AllApply}
use Rattle.pm_client.specs.Clients.{carried}
use Rattle.pm_client.specs.Cursors.{moved_over}
use Rattle.pm_remote.specs.Backs.{backs, IsBack}
use Rattle.pm_remote.specs.Hearings.{others, heard, IsMiddle}
use Rattle.pm_remote.specs.declared.received.Back.{Back}
use Rattle.pm_told.specs.declared.preview.TheConstants.{OTHER}
use Rattle.pm_told.specs.declared.preview.Preview.{Preview}
use Rattle.pm_told.specs.declared.foreign.Shown.{Shown}
use Rattle.pm_told.specs.Showing.{DocClient, View, sum, pairs_of, positions_of, taken_text}

-- what it is for a client past whose version stand its first `own` pending steps and then these of others
pub record IsPreview (s : Schema) (c : DocClient) (own : ℕ) (foreign : List Step) (p : Preview) : Type 0 where
  pub middle : Document
  pub middle_is : IsMiddle meaning s c own middle
  pub end : Document
  pub leads : AllApply meaning s c.base (heard c OTHER own foreign) end
  pub back_is : IsBack meaning s c.doc (backs meaning s middle (changes_of (drop own c.pending))) p.back
  pub kept_is : p.kept ≡ (carried meaning s c own (others c OTHER own foreign) end).kept
  pub dropped_is : p.dropped ≡ (carried meaning s c own (others c OTHER own foreign) end).dropped
  pub cursors_are : p.cursors ≡ moved_over (carried meaning s c own (others c OTHER own foreign) end).maps c.cursors

-- these steps take so many pending ones back
abbrev pub TakesBack : ℕ → Back Step → Type 0
TakesBack pending b = (length b.sizes.items ≡ pending) × (length b.steps.items ≡ sum b.sizes.items)

abbrev pub MayShow : ℕ → Option (Back Step) → Type 0
MayShow pending back = IfSome back (TakesBack pending)

-- what is shown of steps back, others' steps and the pending ones kept
abbrev pub back_view : List (Named Step) → List Step → List (Named Step) → Back Step → View
back_view later foreign kept b = record {
  back = length b.steps.items;
  steps = b.steps.items ++ foreign ++ changes_of kept;
  pairs = pairs_of later (reverse b.sizes.items) kept (length b.steps.items + length foreign);
}

abbrev pub back_views : List (Named Step) → List Step → List (Named Step) → Option (Back Step) → Option View
back_views later foreign kept None = None
back_views later foreign kept (Some b) = Some (back_view later foreign kept b)

-- what was gathered to be shown
abbrev pub view_by : Shown → View
view_by w = record { back = w.back; steps = w.steps.items; pairs = w.pairs.items }

abbrev pub views_by : Option Shown → Option View
views_by None = None
views_by (Some w) = Some (view_by w)

-- what is told by the preview, of a client with these later pending steps
abbrev pub preview_text : SchemaSpec → List (Named Step) → ℕ → List Step → Preview → ℕ → List ℕ
preview_text s later confirmed foreign p version =
    taken_text s (back_views later foreign p.kept p.back) confirmed (positions_of p.cursors) p.dropped (length foreign) version
