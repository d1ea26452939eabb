use Rattle.std.proofs.Common.{refl, ap, sym, ◌∙◌}
use Rattle.pm_meaning.specs.Inverses.{first_lost}
use Rattle.pm_apply.proofs.FirstLost.{lost-more, lost-here, lost-none}
use Rattle.pm_apply.proofs.node_mark.first_lost.Goals as goal

pub loop-mark-init : goal.loop-mark-init
loop-mark-init c = refl

pub loop-mark-preserved : goal.loop-mark-preserved
loop-mark-preserved c =
    lost-more c.marks-mark-items.result.now c.args.new.now c.loop-mark.mark-index c.mark-item.result c.loop-mark.invariant c.loop-mark-test.true c.mark-item.is
    (sym c.has.ensures ∙ c.if-not-has.false)

pub returns-then-not-has : goal.returns-then-not-has
returns-then-not-has c =
    lost-here c.marks-mark-items.result.now c.args.new.now c.loop-mark.mark-index c.mark-item.result c.loop-mark.invariant c.loop-mark-test.true c.mark-item.is
    (sym c.has.ensures ∙ c.if-not-has.true)
    ∙ ap (λ z. first_lost z c.args.new.now) c.marks-mark-items.ensures

pub returns : goal.returns
returns c =
    lost-none c.marks-mark-items.result.now c.args.new.now c.loop-mark.mark-index c.loop-mark.invariant c.loop-mark-test.false
    ∙ ap (λ z. first_lost z c.args.new.now) c.marks-mark-items.ensures
