use Rattle.std.proofs.Common.{◌≡◌, ◌+◌, ◌∙◌, ap, length, string_bytes, rules}
use Rattle.pm_told.specs.Texts.{made_text}
use Rattle.pm_editor.proofs.Editings.{edit-text, edit-after, edit-good}
use Rattle.pm_editor.proofs.editor.Editor.edit.Goals as goal

pub returns-in-Ok-edit_client-clause-text : goal.returns-in-Ok-edit_client-clause-text
returns-in-Ok-edit_client-clause-text c =
    let e = c.args.self.now in
    let cs = c.in-Ok.made.steps.items in
    let serial = c.in_ok-serial.serial in
    let serials = c.in_ok-serials.serials in
    let is : serial ≡ e.serials + 1 = search rules in
    let drawn : serials ≡ e.serials + length cs = search rules in
    edit-text e c.requires c.args.edit.now cs c.in-Ok.ensures.steps c.edit_client.new.client c.in-Ok-edit_client.ensures.edited c.in-Ok-edit_client.ensures.stands serials drawn
    serial (string_bytes c.in_ok-text.text) is (c.in_ok-text.ensures ∙ ap (made_text e.schema.spec serial) c.deref.ensures.value)

pub returns-in-Ok-edit_client-clause-after : goal.returns-in-Ok-edit_client-clause-after
returns-in-Ok-edit_client-clause-after c =
    let e = c.args.self.now in
    let cs = c.in-Ok.made.steps.items in
    let serials = c.in_ok-serials.serials in
    let drawn : serials ≡ e.serials + length cs = search rules in
    edit-after e c.requires c.args.edit.now cs c.in-Ok.ensures.steps c.edit_client.new.client c.in-Ok-edit_client.ensures.edited c.in-Ok-edit_client.ensures.stands serials drawn

pub returns-in-Ok-edit_client-clause-good : goal.returns-in-Ok-edit_client-clause-good
returns-in-Ok-edit_client-clause-good c =
    let e = c.args.self.now in
    let cs = c.in-Ok.made.steps.items in
    let serials = c.in_ok-serials.serials in
    let drawn : serials ≡ e.serials + length cs = search rules in
    edit-good e c.requires c.args.edit.now cs c.in-Ok.ensures.steps c.edit_client.new.client c.in-Ok-edit_client.ensures.edited c.in-Ok-edit_client.ensures.stands serials drawn
