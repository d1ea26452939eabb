use Rattle.std.proofs.Common.{rules, ◌≡◌, length, arith, slice_index_or}
use Rattle.pm_rooms.proofs.Workings.{person-worked}
use Rattle.pm_rooms.proofs.running.run_hall.Goals as goal

pub returns-then-all_done-clause-worked : goal.returns-then-all_done-clause-worked
returns-then-all_done-clause-worked g c = λ i e lt.
    let count : length c.play_each.new.people ≡ length c.args.people.now = c.play_each.ensures.count in
    let done = c.all_done.ensures (search rules) i e (omega (arith, lt, count)) in
    person-worked g.C.Change.means c.args.desks.now (g.K.Maker.makes c.args.crew.now.maker.now) (slice_index_or c.args.people.now i e) (slice_index_or c.play_each.new.people i e)
    (c.play_each.ensures.finished i e lt) done
