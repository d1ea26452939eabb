use Rattle.std.proofs.Common.{◌≡◌, ◌∙◌, sym, ap, subst, string_bytes, Option, Some}
use Rattle.std.specs.Prelude.{IfSome}
use Rattle.pm_tokens.specs.Tokens.{Doc as Document}
use Rattle.pm_apply.specs.Changes.{meaning}
use Rattle.pm_change.specs.Changes.{fold}
use Rattle.pm_told.specs.Texts.{can_text}
use Rattle.pm_editor.proofs.Editings.{can-made}
use Rattle.pm_editor.proofs.editor.Editor.can.Goals as goal

pub returns-in-Some : goal.returns-in-Some
returns-in-Some c =
    let e = c.args.self.now in
    let made = c.in-Ok.made in
    let leads : fold meaning e.schema e.client.doc made.steps.items ≡ Some c.in-Some.field-0 =
    subst (λ (o : Option Document). IfSome o (λ (end : Document). fold meaning e.schema e.client.doc made.steps.items ≡ Some end)) c.in-Some.is c.in-Ok.ensures.end in
    let told : string_bytes c.in_ok-text.text ≡ can_text e.schema.spec made.steps.items = c.in_ok-text.ensures ∙ ap (can_text e.schema.spec) c.deref.ensures.value in
    told ∙ sym (can-made e c.args.edit.now made.steps.items c.in-Ok.ensures.steps c.in-Some.field-0 leads)
