use Rattle.std.proofs.Common.{sym, subst, slice_index_or}
use Rattle.pm_rooms.specs.People.{IsPersonReady, PersonFinished}
use Rattle.pm_rooms.proofs.running.play_each.Goals as goal

pub for_each_mut-requires-clause-accepts : goal.for_each_mut-requires-clause-accepts
for_each_mut-requires-clause-accepts g c κs within = λ i p lt is.
    subst (IsPersonReady g.C.Change.means c.args.floor.now.desks.now) (sym is) (c.requires i p.now lt)

pub returns-clause-finished : goal.returns-clause-finished
returns-clause-finished g c = λ i e lt.
    let at = (c.for_each_mut.ensures i e lt).1 in
    let m = g.C.Change.means in
    let desks = c.args.floor.now.desks.now in
    let makes = g.K.Maker.makes c.args.floor.now.crew.now.maker.now in
    subst (PersonFinished m desks makes (slice_index_or c.args.people.now i e)) at.left
    (subst (λ v. PersonFinished m desks makes v at.after_call.now) at.argument_is at.call)
