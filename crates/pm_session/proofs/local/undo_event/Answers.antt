use Rattle.std.specs.Prelude.{Err, OnErr}
use Rattle.std.proofs.Common.{◌≡◌, ◌∙◌, sym, ap, subst}
use Rattle.pm_history.specs.declared.turn.Turn.TheVariants.{UndoEvent}
use Rattle.pm_history.proofs.Taken.{none-last}
use Rattle.pm_client.specs.declared.failing.UndoError.TheVariants.{NothingToUndo}
use Rattle.pm_client.specs.Clients.{turned_if}
use Rattle.pm_session.specs.declared.outcome.Outcome.TheVariants.{Nothing}
use Rattle.pm_session.specs.Events.{turns}
use Rattle.pm_session.proofs.local.undo_event.Goals as goal

pub returns-in-Err-NothingToUndo-clause-undoes : goal.returns-in-Err-NothingToUndo-clause-undoes
returns-in-Err-NothingToUndo-clause-undoes g c =
    let old = c.args.client.now in
    let is : c.undo_event.result ≡ Err NothingToUndo = subst (λ e. c.undo_event.result ≡ Err e) c.in-Err-NothingToUndo.field-0-is c.in-Err-NothingToUndo.is in
    let none = none-last c.args.event old.history.undo (c.undo_event.ensures.nothing.0 is) in
    let same : c.undo_event.new.self ≡ old = subst (λ r. OnErr r (c.undo_event.new.self ≡ old)) is c.undo_event.ensures.err in
    ap (λ d. (Nothing, d)) same ∙ sym (ap (λ o. turns old (turned_if g.C.Change.means c.args.rules.now old (UndoEvent c.args.event) o)) none)
