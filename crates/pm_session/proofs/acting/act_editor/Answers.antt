use Rattle.pm_history.specs.declared.turn.Turn.TheVariants.{Undo, Redo, UndoEvent}
use Rattle.pm_client.specs.declared.taken.MessageKind.TheVariants.{Submit, Ask}
use Rattle.pm_client.specs.Clients.{undone_last, redone_last, undone_event}
use Rattle.pm_session.specs.Events.{edits, turns, composes, takes}
use Rattle.pm_session.proofs.Alone.{alone-stands, either-stands, cursor-stands}
use Rattle.pm_session.proofs.Hosted.{holder, holder-kept, composer-stands, taken-stands}
use Rattle.pm_session.proofs.Moves.{edits-moved, turns-moved}
use Rattle.pm_session.proofs.SoundLaws.{kin-good}
use Rattle.pm_session.proofs.acting.act_editor.Goals as goal

pub edit-requires-clause-good : goal.edit-requires-clause-good
edit-requires-clause-good g c =
    kin-good g.C.Change.means c.args.rules.now g.met.C.Change.laws (g.H.Host.first c.args.host.now) (g.H.Host.log c.args.host.now) c.args.client.now c.requires.stands.kin

pub set_cursor-requires : goal.set_cursor-requires
set_cursor-requires g c =
    g.met.C.Change.laws.small c.args.rules.now c.args.client.now.doc
    (kin-good g.C.Change.means c.args.rules.now g.met.C.Change.laws (g.H.Host.first c.args.host.now) (g.H.Host.log c.args.host.now) c.args.client.now c.requires.stands.kin)

pub returns-in-Edit-clause-stands : goal.returns-in-Edit-clause-stands
returns-in-Edit-clause-stands g c =
    let m = g.C.Change.means in
    let laws = g.met.C.Change.laws in
    let rules_now = c.args.rules.now in
    let host = c.args.host.now in
    let first = g.H.Host.first host in
    let log = g.H.Host.log host in
    let old = c.args.client.now in
    let stands = c.requires.stands in
    let log_is = g.met.H.Host.kept host rules_now old.name c.requires.served in
    let a = holder m rules_now laws first log old stands log_is in
    let stood = holder-kept m rules_now laws first log old stands log_is in
    let p = edits m rules_now old c.in-Edit.event (g.K.Maker.makes c.args.maker.now rules_now old.doc c.in-Edit.op) in
    let moved = edits-moved m rules_now laws a stood old stands.kin c.in-Edit.event (g.K.Maker.makes c.args.maker.now rules_now old.doc c.in-Edit.op) in
    either-stands m rules_now first log old stands log_is c.edit.result p c.edit.new.client (alone-stands m rules_now first log old stands log_is laws p.1 moved) c.edit.ensures.edits c.edit.ensures.err

pub returns-in-Undo-clause-stands : goal.returns-in-Undo-clause-stands
returns-in-Undo-clause-stands g c =
    let m = g.C.Change.means in
    let laws = g.met.C.Change.laws in
    let rules_now = c.args.rules.now in
    let host = c.args.host.now in
    let first = g.H.Host.first host in
    let log = g.H.Host.log host in
    let old = c.args.client.now in
    let stands = c.requires.stands in
    let log_is = g.met.H.Host.kept host rules_now old.name c.requires.served in
    let a = holder m rules_now laws first log old stands log_is in
    let stood = holder-kept m rules_now laws first log old stands log_is in
    let p = turns old (undone_last m rules_now old) in
    let moved = turns-moved m rules_now laws a stood old stands.kin Undo in
    either-stands m rules_now first log old stands log_is c.undo.result p c.undo.new.client (alone-stands m rules_now first log old stands log_is laws p.1 moved) c.undo.ensures.undoes c.undo.ensures.err

pub returns-in-Redo-clause-stands : goal.returns-in-Redo-clause-stands
returns-in-Redo-clause-stands g c =
    let m = g.C.Change.means in
    let laws = g.met.C.Change.laws in
    let rules_now = c.args.rules.now in
    let host = c.args.host.now in
    let first = g.H.Host.first host in
    let log = g.H.Host.log host in
    let old = c.args.client.now in
    let stands = c.requires.stands in
    let log_is = g.met.H.Host.kept host rules_now old.name c.requires.served in
    let a = holder m rules_now laws first log old stands log_is in
    let stood = holder-kept m rules_now laws first log old stands log_is in
    let p = turns old (redone_last m rules_now old) in
    let moved = turns-moved m rules_now laws a stood old stands.kin Redo in
    either-stands m rules_now first log old stands log_is c.redo.result p c.redo.new.client (alone-stands m rules_now first log old stands log_is laws p.1 moved) c.redo.ensures.redoes c.redo.ensures.err

pub returns-in-UndoEvent-clause-stands : goal.returns-in-UndoEvent-clause-stands
returns-in-UndoEvent-clause-stands g c =
    let m = g.C.Change.means in
    let laws = g.met.C.Change.laws in
    let rules_now = c.args.rules.now in
    let host = c.args.host.now in
    let first = g.H.Host.first host in
    let log = g.H.Host.log host in
    let old = c.args.client.now in
    let stands = c.requires.stands in
    let log_is = g.met.H.Host.kept host rules_now old.name c.requires.served in
    let a = holder m rules_now laws first log old stands log_is in
    let stood = holder-kept m rules_now laws first log old stands log_is in
    let p = turns old (undone_event m rules_now old c.in-UndoEvent.event) in
    let moved = turns-moved m rules_now laws a stood old stands.kin (UndoEvent c.in-UndoEvent.event) in
    either-stands m rules_now first log old stands log_is c.undo_event.result p c.undo_event.new.client (alone-stands m rules_now first log old stands log_is laws p.1 moved) c.undo_event.ensures.undoes c.undo_event.ensures.err

pub returns-in-Cursor-clause-stands : goal.returns-in-Cursor-clause-stands
returns-in-Cursor-clause-stands g c =
    let host = c.args.host.now in
    let rules_now = c.args.rules.now in
    let old = c.args.client.now in
    cursor-stands g.C.Change.means rules_now (g.H.Host.first host) (g.H.Host.log host) old c.requires.stands (g.met.H.Host.kept host rules_now old.name c.requires.served)
    g.met.C.Change.laws _ _ c.set_cursor.result c.set_cursor.new.client c.set_cursor.ensures.sets c.set_cursor.ensures.err

pub returns-in-Submit-clause-stands : goal.returns-in-Submit-clause-stands
returns-in-Submit-clause-stands g c =
    let m = g.C.Change.means in
    let laws = g.met.C.Change.laws in
    let rules_now = c.args.rules.now in
    let host = c.args.host.now in
    let first = g.H.Host.first host in
    let log = g.H.Host.log host in
    let old = c.args.client.now in
    let stands = c.requires.stands in
    let log_is = g.met.H.Host.kept host rules_now old.name c.requires.served in
    let a = holder m rules_now laws first log old stands log_is in
    let stood = holder-kept m rules_now laws first log old stands log_is in
    either-stands m rules_now first log old stands log_is c.compose.result (composes old Submit) c.compose.new.client (composer-stands m rules_now first log old stands Submit) c.compose.ensures.composes c.compose.ensures.err

pub returns-in-Ask-clause-stands : goal.returns-in-Ask-clause-stands
returns-in-Ask-clause-stands g c =
    let m = g.C.Change.means in
    let laws = g.met.C.Change.laws in
    let rules_now = c.args.rules.now in
    let host = c.args.host.now in
    let first = g.H.Host.first host in
    let log = g.H.Host.log host in
    let old = c.args.client.now in
    let stands = c.requires.stands in
    let log_is = g.met.H.Host.kept host rules_now old.name c.requires.served in
    let a = holder m rules_now laws first log old stands log_is in
    let stood = holder-kept m rules_now laws first log old stands log_is in
    either-stands m rules_now first log old stands log_is c.compose-in-Ask.result (composes old Ask) c.compose-in-Ask.new.client (composer-stands m rules_now first log old stands Ask) c.compose-in-Ask.ensures.composes c.compose-in-Ask.ensures.err

pub returns-in-Take-clause-stands : goal.returns-in-Take-clause-stands
returns-in-Take-clause-stands g c =
    let m = g.C.Change.means in
    let laws = g.met.C.Change.laws in
    let rules_now = c.args.rules.now in
    let host = c.args.host.now in
    let first = g.H.Host.first host in
    let log = g.H.Host.log host in
    let old = c.args.client.now in
    let stands = c.requires.stands in
    let log_is = g.met.H.Host.kept host rules_now old.name c.requires.served in
    let a = holder m rules_now laws first log old stands log_is in
    let stood = holder-kept m rules_now laws first log old stands log_is in
    either-stands m rules_now first log old stands log_is c.take.result (takes m rules_now old c.in-Take.answer) c.take.new.client (taken-stands m rules_now laws first log old stands c.in-Take.answer) c.take.ensures.takes c.take.ensures.err
