use Rattle.std.proofs.Common.{rules}
use Rattle.pm_workers.proofs.Handing.{picked-next}
use Rattle.pm_workers.proofs.hands.pick.Goals as goal

pub loop-place-preserved : goal.loop-place-preserved
loop-place-preserved c =
    picked-next c.args.clients.now c.args.order.now c.loop-place.place-index 0 c.loop-place.picked.items c.push.new.self.items _ (search rules) (search rules) (search rules) c.loop-place.invariant
