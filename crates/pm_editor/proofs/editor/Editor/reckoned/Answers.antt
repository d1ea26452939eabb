use Rattle.std.proofs.Common.{◌≡◌, ◌∙◌, ap, rules}
use Rattle.pm_apply.specs.Changes.{meaning}
use Rattle.pm_apply.specs.Laws.{laws}
use Rattle.pm_history.specs.Undos.{undo_event}
use Rattle.pm_history.proofs.Starts.{if-ok-then}
use Rattle.pm_client.proofs.Turns.{since-shows, since-event}
use Rattle.pm_editor.proofs.editor.Editor.reckoned.Goals as goal

pub undo_event-requires : goal.undo_event-requires
undo_event-requires c =
    let e = c.args.self.now in
    let s = c.requires.stands in
    let same : c.in_ok-doc.doc ≡ e.client.doc = search rules in
    rw same (since-shows meaning e.schema laws s.first s.log e.client s.kin c.args.names.now c.since-items.result.now (rw c.history.ensures at c.since-items.ensures))

pub returns : goal.returns
returns c =
    let e = c.args.self.now in
    let s = c.requires.stands in
    let names = c.args.names.now in
    let from = c.since-items.result.now in
    let doc = c.in_ok-doc.doc in
    let same : doc ≡ e.client.doc = search rules in
    let own : c.name.result ≡ e.client.name = search rules in
    if-ok-then c.undo_event.result (λ w. w ≡ undo_event meaning e.schema c.name.result names from doc c.args.serial)
    (λ w. w ≡ undo_event meaning e.schema e.client.name names e.client.history.items e.client.doc c.args.serial)
    (λ w h. h ∙ ap (λ n. undo_event meaning e.schema n names from doc c.args.serial) own ∙ ap (λ d. undo_event meaning e.schema e.client.name names from d c.args.serial) same
    ∙ since-event meaning e.schema laws s.first s.log e.client s.kin names from (rw c.history.ensures at c.since-items.ensures) c.args.serial) c.undo_event.ensures.made
