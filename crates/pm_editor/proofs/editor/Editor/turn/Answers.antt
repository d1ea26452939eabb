use Rattle.std.proofs.Common.{◌≡◌, ◌+◌, ◌∙◌, sym, ap, List, length, string_bytes, Some, rules}
use Rattle.pm_meaning.specs.Steps.{Step}
use Rattle.pm_apply.specs.Changes.{meaning}
use Rattle.pm_history.specs.Turns.{event_for}
use Rattle.pm_history.specs.Undos.{undo_event}
use Rattle.pm_told.specs.Texts.{turned_text}
use Rattle.pm_told.specs.Showing.{serials_on}
use Rattle.pm_editor.proofs.Turnings.{turn-text, turn-good, turn-after}
use Rattle.pm_editor.proofs.editor.Editor.turn.Goals as goal

pub returns-in-Ok-clause-text : goal.returns-in-Ok-clause-text
returns-in-Ok-clause-text c =
    let e = c.args.self.now in
    let x = c.in-Some.event.now in
    let serial = c.in_ok-serial.serial in
    let is : serial ≡ e.serials + 1 = search rules in
    let last : event_for c.args.turn e.client.history ≡ Some x = ap (event_for c.args.turn) (sym c.history.ensures) ∙ c.in-Some.ensures.value in
    turn-text e c.requires c.args.turn x last c.in-Ok.field-0 c.turn_client.new.client c.in-Ok.ensures.turned c.in_ok-undone.undone serial is
    (c.in_ok-undone.ensures ∙ ap (λ ns. undo_event meaning e.schema e.client.name ns e.client.history.items e.client.doc serial) c.as_slice.ensures)
    (string_bytes c.in_ok-text.text)
    (c.in_ok-text.ensures ∙ ap (λ (l : List Step). turned_text e.schema.spec (serials_on serial (length l)) l) c.as_slice-2.ensures)

pub returns-in-Ok-clause-after : goal.returns-in-Ok-clause-after
returns-in-Ok-clause-after c =
    let e = c.args.self.now in
    let x = c.in-Some.event.now in
    let serial = c.in_ok-serial.serial in
    let serials = c.in_ok-serials.serials in
    let is : serial ≡ e.serials + 1 = search rules in
    let drawn : serials ≡ e.serials + length c.in_ok-undone.undone.made = search rules in
    let last : event_for c.args.turn e.client.history ≡ Some x = ap (event_for c.args.turn) (sym c.history.ensures) ∙ c.in-Some.ensures.value in
    turn-after e c.requires c.args.turn x last c.in-Ok.field-0 c.turn_client.new.client c.in-Ok.ensures.turned c.in_ok-undone.undone serial is
    (c.in_ok-undone.ensures ∙ ap (λ ns. undo_event meaning e.schema e.client.name ns e.client.history.items e.client.doc serial) c.as_slice.ensures)
    c.in-Ok.ensures.stands serials drawn

pub returns-in-Ok-clause-good : goal.returns-in-Ok-clause-good
returns-in-Ok-clause-good c =
    let e = c.args.self.now in
    let x = c.in-Some.event.now in
    let serial = c.in_ok-serial.serial in
    let serials = c.in_ok-serials.serials in
    let is : serial ≡ e.serials + 1 = search rules in
    let drawn : serials ≡ e.serials + length c.in_ok-undone.undone.made = search rules in
    let last : event_for c.args.turn e.client.history ≡ Some x = ap (event_for c.args.turn) (sym c.history.ensures) ∙ c.in-Some.ensures.value in
    turn-good e c.requires c.args.turn x last c.in-Ok.field-0 c.turn_client.new.client c.in-Ok.ensures.turned c.in_ok-undone.undone serial is
    (c.in_ok-undone.ensures ∙ ap (λ ns. undo_event meaning e.schema e.client.name ns e.client.history.items e.client.doc serial) c.as_slice.ensures)
    c.in-Ok.ensures.stands serials drawn
