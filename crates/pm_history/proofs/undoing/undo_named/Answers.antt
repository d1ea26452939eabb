use Rattle.std.proofs.Common.{◌+◌, ◌-◌, drop, take, length}
use Rattle.std.proofs.lemmas.List.{take_rest}
use Rattle.pm_history.proofs.Steps.{found-place, may-at}
use Rattle.pm_history.proofs.undoing.undo_named.Goals as goal

pub undo_steps-requires : goal.undo_steps-requires
undo_steps-requires g c =
    let items = c.args.items.now in
    let k = c.in-Some.k in
    let i = c.index-items-k.result in
    let w = c.args.undone in
    let rest = take (length items - (k + 1)) (drop (k + 1) items) in
    let bs = c.inverse-steps.result.now in
    let found = found-place c.args.name items k i rest c.place_of.result c.place_of.ensures.found c.in-Some.is c.index-items-k.is c.in-Some.ensures.within (take_rest items (k + 1)) in
    may-at g.C.Change.means c.args.rules.now c.args.client g.met.C.Change.laws c.args.name items w.items w.doc i rest bs c.requires found c.inverse-steps.ensures
