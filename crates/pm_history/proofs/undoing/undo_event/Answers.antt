use Rattle.std.proofs.Common.{◌≡◌, ◌-◌, ◌++◌, ◌∙◌, drop, take, length, arith}
use Rattle.std.proofs.lemmas.List.{take_rest}
use Rattle.pm_history.specs.Made.{IsMade}
use Rattle.pm_history.specs.Restores.{RestoresAll, IsOfWhole}
use Rattle.pm_history.specs.Shows.{ShowsTo}
use Rattle.pm_history.specs.Undos.{undo_event}
use Rattle.pm_history.proofs.Starts.{event-from, if-ok-then, made-shows, shows-from}
use Rattle.pm_history.proofs.Steps.{event-end, event-made, event-whole}
use Rattle.pm_history.proofs.undoing.undo_event.Goals as goal

pub undo_from-requires : goal.undo_from-requires
undo_from-requires g c =
    let items = c.args.items.now in
    let k = c.start_of-start.result in
    shows-from g.C.Change.means c.args.rules.now g.met.C.Change.laws k items (take (length items - k) (drop k items)) c.args.doc (take_rest items k) c.requires

pub returns-clause-made : goal.returns-clause-made
returns-clause-made g c =
    let m = g.C.Change.means in
    let items = c.args.items.now in
    let k = c.start_of-start.result in
    let from = take (length items - k) (drop k items) in
    if-ok-then c.undo_from.result (λ w. w ≡ undo_event m c.args.rules.now c.args.client c.args.names.now from c.args.doc c.args.serial)
    (λ w. w ≡ undo_event m c.args.rules.now c.args.client c.args.names.now items c.args.doc c.args.serial)
    (λ w e. e ∙ event-from m c.args.rules.now c.args.client c.args.names.now items from k c.args.doc c.args.serial c.start_of-start.ensures.start (take_rest items k)) c.undo_from.ensures

pub returns-clause-steps : goal.returns-clause-steps
returns-clause-steps g c =
    let m = g.C.Change.means in
    if-ok-then c.undo_from.result (λ w. w ≡ undo_event m c.args.rules.now c.args.client c.args.names.now c.args.items.now c.args.doc c.args.serial)
    (IsMade m c.args.rules.now c.args.client c.args.doc c.args.serial)
    (λ w e. event-made m c.args.rules.now c.args.client c.args.names.now c.args.items.now c.args.doc c.args.serial 0 w (omega arith) e) (returns-clause-made g c)

pub returns-clause-shows : goal.returns-clause-shows
returns-clause-shows g c =
    let m = g.C.Change.means in
    if-ok-then c.undo_from.result (λ w. w ≡ undo_event m c.args.rules.now c.args.client c.args.names.now c.args.items.now c.args.doc c.args.serial)
    (λ w. ShowsTo m c.args.rules.now (c.args.items.now ++ w.items) w.doc)
    (λ w e. made-shows m c.args.rules.now c.args.client c.args.names.now c.args.items.now c.args.doc c.args.serial w c.requires e) (returns-clause-made g c)

pub returns-clause-whole : goal.returns-clause-whole
returns-clause-whole g c =
    let m = g.C.Change.means in
    if-ok-then c.undo_from.result (λ w. w ≡ undo_event m c.args.rules.now c.args.client c.args.names.now c.args.items.now c.args.doc c.args.serial)
    (IsOfWhole m c.args.rules.now c.args.client c.args.names.now c.args.items.now c.args.doc c.args.serial)
    (λ w e. event-whole m c.args.rules.now c.args.client c.args.names.now c.args.items.now c.args.doc c.args.serial 0 w (omega arith) e) (returns-clause-made g c)

pub returns-clause-restores : goal.returns-clause-restores
returns-clause-restores g c =
    let m = g.C.Change.means in
    if-ok-then c.undo_from.result (λ w. w ≡ undo_event m c.args.rules.now c.args.client c.args.names.now c.args.items.now c.args.doc c.args.serial)
    (RestoresAll m c.args.rules.now c.args.names.now c.args.items.now c.args.doc)
    (λ w e. event-end m c.args.rules.now c.args.client g.met.C.Change.laws c.args.names.now c.args.items.now c.args.doc c.args.serial 0 w (omega arith) e) (returns-clause-made g c)
