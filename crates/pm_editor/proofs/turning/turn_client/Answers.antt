use Rattle.pm_history.proofs.Taken.{last-empty, last-none, none-last}
use Rattle.pm_editor.proofs.Clients.{stands-on}
use Rattle.pm_editor.proofs.turning.turn_client.Goals as goal

pub returns-in-Undo-clause-nothing : goal.returns-in-Undo-clause-nothing
returns-in-Undo-clause-nothing c =
    let none = last-empty c.args.client.now.history.undo in
    rw c.in-Undo.is (λ e. none.1 (c.undo.ensures.nothing.0 e), λ e. c.undo.ensures.nothing.1 (none.0 e))

pub returns-in-Redo-clause-nothing : goal.returns-in-Redo-clause-nothing
returns-in-Redo-clause-nothing c =
    let none = last-empty c.args.client.now.history.redo in
    rw c.in-Redo.is (λ e. none.1 (c.redo.ensures.nothing.0 e), λ e. c.redo.ensures.nothing.1 (none.0 e))

pub returns-in-UndoEvent-clause-nothing : goal.returns-in-UndoEvent-clause-nothing
returns-in-UndoEvent-clause-nothing c =
    let es = c.args.client.now.history.undo in
    rw c.in-UndoEvent.is
    (λ e. none-last c.in-UndoEvent.number es (c.undo_event.ensures.nothing.0 e), λ e. c.undo_event.ensures.nothing.1 (last-none c.in-UndoEvent.number es e))

pub returns-in-Undo-clause-stands : goal.returns-in-Undo-clause-stands
returns-in-Undo-clause-stands c = stands-on c.args.schema.now c.args.client.now c.undo.new.self c.requires c.undo.ensures.kin

pub returns-in-Redo-clause-stands : goal.returns-in-Redo-clause-stands
returns-in-Redo-clause-stands c = stands-on c.args.schema.now c.args.client.now c.redo.new.self c.requires c.redo.ensures.kin

pub returns-in-UndoEvent-clause-stands : goal.returns-in-UndoEvent-clause-stands
returns-in-UndoEvent-clause-stands c = stands-on c.args.schema.now c.args.client.now c.undo_event.new.self c.requires c.undo_event.ensures.kin
