use Rattle.std.proofs.Common.{◌≡◌, ◌∙◌, List, [], ◌∷◌, IfOk, OnOk, string_bytes, subst, ap, sym, Result, Ok}
use Rattle.pm_change.specs.declared.no_step.NoStep.{NoStep}
use Rattle.pm_schema.specs.declared.schema.Schema.{Schema}
use Rattle.pm_meaning.specs.Steps.{Step}
use Rattle.pm_edit.specs.Ops.{steps_of}
use Rattle.pm_archive.specs.Answers.{edited}
use Rattle.pm_archive.proofs.archive.Archive.edit.Goals as goal

pub returns-in_ok-change-in-Ok-clause-text : goal.returns-in_ok-change-in-Ok-clause-text
returns-in_ok-change-in-Ok-clause-text c =
    let a = c.args.self.now in
    let made : Ok (c.in_ok-change-in-Ok.change ∷ []) ≡ steps_of a.schema a.doc c.args.op.now =
    ap (λ (x : Step). Ok (x ∷ [])) c.in_ok-change-in-Ok.ensures
    ∙ (sym c.in-Ok.ensures.steps ∙ ap (λ (s : Schema). steps_of s a.doc c.args.op.now) c.get.ensures) in
    subst (λ (r : Result (List Step) NoStep). IfOk c.submit_edit.result (λ s. string_bytes s ≡ (edited a c.args.id.now r).0)) made c.submit_edit.ensures.text

pub returns-in_ok-change-in-Ok-clause-after : goal.returns-in_ok-change-in-Ok-clause-after
returns-in_ok-change-in-Ok-clause-after c =
    let a = c.args.self.now in
    let made : Ok (c.in_ok-change-in-Ok.change ∷ []) ≡ steps_of a.schema a.doc c.args.op.now =
    ap (λ (x : Step). Ok (x ∷ [])) c.in_ok-change-in-Ok.ensures
    ∙ (sym c.in-Ok.ensures.steps ∙ ap (λ (s : Schema). steps_of s a.doc c.args.op.now) c.get.ensures) in
    subst (λ (r : Result (List Step) NoStep). OnOk c.submit_edit.result (c.submit_edit.new.self ≡ (edited a c.args.id.now r).1)) made c.submit_edit.ensures.after
