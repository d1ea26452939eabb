use Rattle.std.proofs.Common.{◌≡◌, ◌+◌, ◌∙◌, ap, rules}
use Rattle.pm_history.specs.Undos.{undo_event}
use Rattle.pm_history.proofs.Starts.{if-ok-then}
use Rattle.pm_client.proofs.Turns.{since-shows, since-event}
use Rattle.pm_client.proofs.client.Client.made_of.Goals as goal

pub undo_event-requires : goal.undo_event-requires
undo_event-requires g c =
    let m = g.C.Change.means in
    let client = c.args.self.now in
    let same : c.in_ok-doc.doc ≡ client.doc = search rules in
    rw (same) (since-shows m c.args.rules.now g.met.C.Change.laws c.requires.first c.requires.log client c.requires.kin c.args.names.now c.since-items.result.now c.since-items.ensures)

pub returns-clause-made : goal.returns-clause-made
returns-clause-made g c =
    let m = g.C.Change.means in
    let rs = c.args.rules.now in
    let client = c.args.self.now in
    let names = c.args.names.now in
    let from = c.since-items.result.now in
    let doc = c.in_ok-doc.doc in
    let serial = c.in_ok-serial.serial in
    let same : doc ≡ client.doc = search rules in
    let next : serial ≡ client.serials + 1 = search rules in
    if-ok-then c.undo_event.result (λ w. w ≡ undo_event m rs client.name names from doc serial)
    (λ w. w ≡ undo_event m rs client.name names client.history.items client.doc (client.serials + 1))
    (λ w e. e ∙ ap (λ d. undo_event m rs client.name names from d serial) same ∙ ap (undo_event m rs client.name names from client.doc) next
    ∙ since-event m rs g.met.C.Change.laws c.requires.first c.requires.log client c.requires.kin names from c.since-items.ensures (client.serials + 1)) c.undo_event.ensures.made
