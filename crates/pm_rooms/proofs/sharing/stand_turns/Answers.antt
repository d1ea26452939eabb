use Rattle.std.proofs.Common.{map}
use Rattle.pm_rooms.specs.Opened.{stand_person}
use Rattle.pm_rooms.proofs.Handings.{turns-next}
use Rattle.pm_rooms.proofs.sharing.stand_turns.Goals as goal

pub loop-stand-preserved : goal.loop-stand-preserved
loop-stand-preserved g c =
    turns-next (λ x. stand_person (map (λ v. v.items) c.args.people.now) x) c.args.stands.now c.loop-stand.stand-index c.stand-item.result _ _ _ c.loop-stand-test.true c.stand-item.is c.loop-stand.invariant c.in_ok-push.ensures.items c.person_of.ensures
