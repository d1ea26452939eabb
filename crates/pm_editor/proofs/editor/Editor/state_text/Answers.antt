use Rattle.std.specs.Prelude.{codes, decimal, ◌++◌, List, ℕ, length}
use Rattle.std.proofs.Common.{◌∙◌, ap, string_bytes}
use Rattle.pm_client.specs.declared.cursors.Cursor.{Cursor}
use Rattle.pm_told.specs.Texts.{numbers_text}
use Rattle.pm_told.specs.Showing.{positions_of}
use Rattle.pm_editor.proofs.Joinings.{begun, state-joined}
use Rattle.pm_editor.proofs.editor.Editor.state_text.Goals as goal

pub returns : goal.returns
returns c =
    let e = c.args.self.now in
    let places = c.deref.ensures.value ∙ c.in_ok-cursors.ensures ∙ ap (λ (l : List Cursor). positions_of l) c.cursors.ensures in
    state-joined _ _ _ _ _ _ (codes "{\"clientID\":") e.id (codes ",\"cursors\":") (numbers_text (positions_of e.client.cursors))
    (codes ",\"pending\":") (decimal (length e.client.pending)) (codes ",\"redo\":") (decimal (length e.client.history.redo))
    (codes ",\"size\":" ++ (decimal (length e.client.doc.tokens) ++ (codes ",\"undo\":" ++ (decimal (length e.client.history.undo)
    ++ (codes ",\"version\":" ++ (decimal e.client.version ++ codes "}\n"))))))
    (begun _ _ (codes "{\"clientID\":") c.new-text.ensures.bytes c.in_ok-push_str.ensures.bytes)
    (c.in_ok-push_str-2.ensures.bytes ∙ ap (λ (l : List ℕ). string_bytes c.push_str.new.self ++ l) c.as_str.ensures)
    c.in_ok-push_str-3.ensures.bytes
    (c.in_ok-push_numbers.ensures ∙ ap (λ (l : List ℕ). string_bytes c.push_str-3.new.self ++ numbers_text l) places)
    c.in_ok-push_counts.ensures c.in_ok-push_sizes.ensures
