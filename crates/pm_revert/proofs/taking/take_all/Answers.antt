use Rattle.pm_revert.proofs.Takings.{one-taken}
use Rattle.pm_revert.proofs.taking.take_all.Goals as goal

pub loop-back-preserved : goal.loop-back-preserved
loop-back-preserved g c =
    one-taken g.C.Change.means c.args.rules.now c.args.so c.args.backs.now c.loop-back.back-index c.loop-back.so_far c.back-item.result c.loop-back-test.true c.back-item.is c.loop-back.invariant
    g.met.C.Change.laws c.in-Ok.next c.in-Ok.ensures
