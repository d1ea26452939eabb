use Rattle.std.proofs.Common.{◌∙◌, sym}
use Rattle.pm_history.proofs.Starts.{named-next}
use Rattle.pm_history.proofs.undoing.is_named.Goals as goal

pub loop-one-preserved : goal.loop-one-preserved
loop-one-preserved c =
    let k = c.one_step.ensures in
    c.loop-one.invariant ∙ named-next c.args.names.now c.loop-one.one-index c.args.name _ c.loop-one-test.true (sym c.one_step.ensures ∙ c.if-one_step.false)
