-- What an edit is answered, and what the editor is then.
use Rattle.std.specs.Prelude.{◌≡◌, ℕ, ◌+◌, ◌<◌, List, [], ◌∷◌, length, Option, Some, Result, Ok, Err, IfOk}
use Rattle.std.proofs.Common.{sym, ap, ◌∙◌, arith}
use Rattle.pm_tokens.specs.Tokens.{Doc as Document}
use Rattle.pm_schema.specs.declared.schema.Schema.{Schema}
use Rattle.pm_meaning.specs.Steps.{Step}
use Rattle.pm_meaning.specs.declared.reason.Reason.{Reason}
use Rattle.pm_change.specs.Changes.{fold}
use Rattle.pm_change.specs.declared.no_step.NoStep.{NoStep}
use Rattle.pm_change.specs.declared.no_step.MakeError.{MakeError}
use Rattle.pm_apply.specs.Changes.{meaning}
use Rattle.pm_ops.specs.declared.op.Op.{Op}
use Rattle.pm_making.specs.Making.{makes}
use Rattle.pm_making.specs.Makers.{some_step}
use Rattle.pm_session.specs.Makes.{GivesSteps}
use Rattle.pm_session.specs.declared.maker.Made.{Made}
use Rattle.pm_authority.specs.declared.named.Named.{Named}
use Rattle.pm_authority.specs.declared.running.Refusal.{Refusal}
use Rattle.pm_authority.specs.Runs.{run}
use Rattle.pm_authority.proofs.RunFolds.{fold-run}
use Rattle.pm_client.specs.Clients.{named, tried, edited}
use Rattle.pm_client.specs.Kins.{Stands}
use Rattle.pm_client.proofs.TimelineLaws.{named-changes}
use Rattle.pm_remote.proofs.Bares.{bare-edited}
use Rattle.pm_told.specs.Texts.{made_text, can_text, unmade_text, none_text}
use Rattle.pm_told.specs.Showing.{DocClient}
use Rattle.pm_asked.specs.declared.asked.Edit.{Edit}
use Rattle.pm_editor.specs.declared.editor.Editor.{Editor}
use Rattle.pm_editor.specs.Editors.{IsEditor, moved, made_answer, edit_answer, edited_by, tried_text, could_text, can_answer}
use Rattle.pm_editor.proofs.Clients.{edited-on, on-good, on-moved}

-- an op makes at least one step
pub some-made : (s : Schema) (doc : Document) (op : Op) (cs : List Step) → makes s doc op ≡ Ok cs → 0 < length cs
some-made s doc op [] h = absurd (some_step s doc op h)
some-made s doc op (x ∷ xs) h = omega arith

-- so it is where a maker gives them
pub gives-some : (s : Schema) (doc : Document) (op : Op) (r : Result (Made Step Schema Document Reason) MakeError) → GivesSteps (makes s doc op) r
    → IfOk r (λ (made : Made Step Schema Document Reason). 0 < length made.steps.items)
gives-some s doc op (Ok made) h = some-made s doc op made.steps.items h
gives-some s doc op (Err x) h = tt

module _ (e : Editor) (cs : List Step) (event : Option ℕ) where
  -- steps that would be made, or one of which does not apply
  pub tried-fits : (serial : ℕ) (end : Document) → serial ≡ e.client.serials + 1 → run meaning e.schema e.client.doc 0 (named e.client.name serial cs) ≡ Ok end
      → tried_text e cs (edited meaning e.schema e.client cs event) ≡ can_text e.schema.spec cs
  tried-fits serial end is h =
      ap (λ (r : Result Document (Refusal Reason)). tried_text e cs (tried meaning e.schema e.client cs event r))
      (ap (λ (k : ℕ). run meaning e.schema e.client.doc 0 (named e.client.name k cs)) (sym is) ∙ h)

  pub tried-fails : (serial : ℕ) (refusal : Refusal Reason) → serial ≡ e.client.serials + 1 → run meaning e.schema e.client.doc 0 (named e.client.name serial cs) ≡ Err refusal
      → tried_text e cs (edited meaning e.schema e.client cs event) ≡ unmade_text refusal.reason
  tried-fails serial refusal is h =
      ap (λ (r : Result Document (Refusal Reason)). tried_text e cs (tried meaning e.schema e.client cs event r))
      (ap (λ (k : ℕ). run meaning e.schema e.client.doc 0 (named e.client.name k cs)) (sym is) ∙ h)

module _ (e : Editor) (edit : Edit) where
  -- there are no steps
  pub edit-none : (reason : NoStep) → makes e.schema e.client.doc edit.op ≡ Err reason → edited_by e edit ≡ (none_text reason, e)
  edit-none reason h = ap (edit_answer e edit.event) h

  pub can-none : (reason : NoStep) → makes e.schema e.client.doc edit.op ≡ Err reason → can_answer e edit ≡ none_text reason
  can-none reason h = ap (could_text e edit.event) h

  module _ (cs : List Step) (made : makes e.schema e.client.doc edit.op ≡ Ok cs) where
    -- they were made
    pub edit-made : (next : DocClient) → edited meaning e.schema e.client cs edit.event ≡ Ok next → edited_by e edit ≡ (made_text e.schema.spec (e.client.serials + 1) cs, moved e next)
    edit-made next h = ap (edit_answer e edit.event) made ∙ ap (made_answer e cs) h

    -- one of them does not apply
    pub edit-refused : (refusal : Refusal Reason) → edited meaning e.schema e.client cs edit.event ≡ Err refusal → edited_by e edit ≡ (unmade_text refusal.reason, e)
    edit-refused refusal h = ap (edit_answer e edit.event) made ∙ ap (made_answer e cs) h

    pub can-tried : can_answer e edit ≡ tried_text e cs (edited meaning e.schema e.client cs edit.event)
    can-tried = ap (could_text e edit.event) made

    -- they lead to a document
    pub can-made : (end : Document) → fold meaning e.schema e.client.doc cs ≡ Some end → can_answer e edit ≡ can_text e.schema.spec cs
    can-made end leads =
        let c = e.client in
        let new : List (Named Step) = named c.name (c.serials + 1) cs in
        let ran : run meaning e.schema c.doc 0 new ≡ Ok end =
        fold-run meaning e.schema c.doc end 0 new (ap (fold meaning e.schema c.doc) (named-changes c.name (c.serials + 1) cs) ∙ leads) in
        can-tried ∙ ap (λ (r : Result Document (Refusal Reason)). tried_text e cs (tried meaning e.schema c cs edit.event r)) ran

-- The editor once the steps were made.
module _ (e : Editor) (good : IsEditor e) (edit : Edit) (cs : List Step) (made : makes e.schema e.client.doc edit.op ≡ Ok cs) (next : DocClient)
    (done : edited meaning e.schema e.client cs edit.event ≡ Ok next)
    (stands : Stands meaning e.schema next)
    (n : ℕ) (drawn : n ≡ e.serials + length cs) where
  pub edit-good : IsEditor (record { schema = e.schema; client = next; id = e.id; serials = n })
  edit-good =
      on-good e good next cs (edited-on e.schema e.client next cs edit.event done) (bare-edited meaning e.schema e.client next good.bare cs edit.event done)
      stands n drawn

  pub edit-after : record { schema = e.schema; client = next; id = e.id; serials = n } ≡ (edited_by e edit).1
  edit-after =
      on-moved e good next cs (edited-on e.schema e.client next cs edit.event done) (bare-edited meaning e.schema e.client next good.bare cs edit.event done)
      stands n drawn
      ∙ ap (λ p. p.1) (sym (edit-made e edit cs made next done))

  pub edit-text : (serial : ℕ) (text : List ℕ) → serial ≡ e.serials + 1 → text ≡ made_text e.schema.spec serial cs → text ≡ (edited_by e edit).0
  edit-text serial text is told =
      told ∙ ap (λ (k : ℕ). made_text e.schema.spec k cs) (is ∙ ap (λ (k : ℕ). k + 1) good.serials) ∙ ap (λ p. p.0) (sym (edit-made e edit cs made next done))
