use Rattle.std.proofs.Common.{rules, refl, ◌∙◌, arith}
use Rattle.pm_auto.specs.declared.expr.Expr.TheViews.{the_lemmas}
use Rattle.pm_auto.proofs.WidthLaws.{expand_all-items, width-in_turn, width-one_of, width-range, min-times, min-more}
use Rattle.pm_auto.proofs.Orders.{drop-at}
use Rattle.pm_auto.proofs.width.+width.Goals as goal

pub width-returns-in-Choice : goal.width-returns-in-Choice
width-returns-in-Choice t c = search (rules, the_lemmas, width-one_of, expand_all-items)

pub width-returns-in-Seq : goal.width-returns-in-Seq
width-returns-in-Seq t c = search (rules, the_lemmas, width-in_turn, expand_all-items)

pub width-returns-in-Range : goal.width-returns-in-Range
width-returns-in-Range t c = search (rules, the_lemmas, width-range, min-times)

pub width_of_all-loop-item-preserved : goal.width_of_all-loop-item-preserved
width_of_all-loop-item-preserved t c =
    (omega arith, c.loop-item.invariant.1 ∙ rw (drop-at c.args.items.now c.loop-item.item-index c.item-item.result c.loop-item-test.true c.item-item.is) (min-more _ _ _ _ c.width.ensures ∙ rw c.min-sum.ensures refl))
