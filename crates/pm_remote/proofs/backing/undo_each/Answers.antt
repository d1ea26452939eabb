use Rattle.pm_remote.proofs.Undoings.{step-applies, undone-more}
use Rattle.pm_remote.proofs.backing.undo_each.Goals as goal

pub inverse-requires-clause-applies : goal.inverse-requires-clause-applies
inverse-requires-clause-applies g c =
    step-applies g.C.Change.means c.args.rules.now c.args.before.now c.args.steps.now c.loop-step.step-index c.loop-step.so_far c.loop-step.all.items c.step-item.result
    c.loop-step-test.true c.step-item.is c.loop-step.invariant

pub loop-step-preserved : goal.loop-step-preserved
loop-step-preserved g c =
    rw (c.in_ok-push.ensures.items, c.from_vec.ensures, c.in_ok-undo.ensures)
    (undone-more g.C.Change.means c.args.rules.now c.args.before.now c.args.steps.now c.loop-step.step-index c.loop-step.so_far c.loop-step.all.items c.step-item.result
    c.loop-step-test.true c.step-item.is c.loop-step.invariant g.met.C.Change.laws c.in-Ok.next c.in-Ok.ensures)
