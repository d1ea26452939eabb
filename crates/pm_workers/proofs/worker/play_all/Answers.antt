use Rattle.std.proofs.Common.{◌≡◌, sym, subst, slice_index_or}
use Rattle.pm_workers.specs.Worked.{Finished, IsReady}
use Rattle.pm_workers.proofs.worker.play_all.Goals as goal

pub for_each_mut-requires-clause-accepts : goal.for_each_mut-requires-clause-accepts
for_each_mut-requires-clause-accepts g c κs within = λ i p lt is.
    subst (λ w. IsReady g.C.Change.means c.args.office.now.desk.now w.lines.items w.member w.seat w.outcomes.items) (sym is) (c.requires i p.now lt)

pub returns-clause-finished : goal.returns-clause-finished
returns-clause-finished g c = λ i e lt.
    let at = (c.for_each_mut.ensures i e lt).1 in
    let m = g.C.Change.means in
    let d = c.args.office.now.desk.now in
    let makes = g.K.Maker.makes c.args.office.now.crew.now.maker.now d.opening.rules in
    let was = slice_index_or c.args.workers.now i e in
    subst (λ w. Finished m makes d was.lines.items was.member was.seat w.outcomes.items w.member w.seat) at.left
    (subst (λ v. Finished m makes d v.lines.items v.member v.seat at.after_call.now.outcomes.items at.after_call.now.member at.after_call.now.seat) at.argument_is at.call.0)

pub returns-clause-lines : goal.returns-clause-lines
returns-clause-lines g c = λ i e lt.
    let at = (c.for_each_mut.ensures i e lt).1 in
    subst (λ w. w.lines ≡ (slice_index_or c.args.workers.now i e).lines) at.left (subst (λ v. at.after_call.now.lines ≡ v.lines) at.argument_is at.call.1)
