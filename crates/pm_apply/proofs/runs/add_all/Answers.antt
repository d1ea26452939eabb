use Rattle.pm_step.specs.declared.marking.Marking.TheVariants.{Add}
use Rattle.pm_apply.proofs.FirstLost.{copied, added-more, all-added, given-nothing}
use Rattle.pm_apply.proofs.runs.add_all.Goals as goal

pub loop-mark-init : goal.loop-mark-init
loop-mark-init c = given-nothing c.args.target c.args.steps.now.items

pub loop-mark-preserved : goal.loop-mark-preserved
loop-mark-preserved c =
    added-more c.args.target c.args.marks.now c.loop-mark.mark-index c.mark-item.result c.args.steps.now.items _ _ c.loop-mark-test.true c.mark-item.is
    c.loop-mark.invariant (copied c.args.target Add _ _ _ _ c.in_ok-copy.ensures c.in_ok-push_step.ensures)

pub returns : goal.returns
returns c = all-added c.args.target c.args.marks.now c.loop-mark.mark-index c.args.steps.now.items _ c.loop-mark.invariant c.loop-mark-test.false
