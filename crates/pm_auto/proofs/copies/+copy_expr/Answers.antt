use Rattle.std.proofs.Common.{rules}
use Rattle.pm_auto.specs.declared.expr.Expr.TheViews.{the_lemmas}
use Rattle.pm_auto.proofs.TreeLaws.{trees-items, one-more}
use Rattle.pm_auto.proofs.copies.+copy_expr.Goals as goal

pub copy_expr-returns-in_ok-copies-in-Choice : goal.copy_expr-returns-in_ok-copies-in-Choice
copy_expr-returns-in_ok-copies-in-Choice t c = search (rules, the_lemmas, trees-items)

pub copy_expr-returns-in_ok-copies-in-Seq : goal.copy_expr-returns-in_ok-copies-in-Seq
copy_expr-returns-in_ok-copies-in-Seq t c = search (rules, the_lemmas, trees-items)

pub copy_expr-returns-in_ok-new-in-Plus : goal.copy_expr-returns-in_ok-new-in-Plus
copy_expr-returns-in_ok-new-in-Plus t c = search (rules, the_lemmas, trees-items)

pub copy_expr-returns-in_ok-new-in-Star : goal.copy_expr-returns-in_ok-new-in-Star
copy_expr-returns-in_ok-new-in-Star t c = search (rules, the_lemmas, trees-items)

pub copy_expr-returns-in_ok-new-in-Opt : goal.copy_expr-returns-in_ok-new-in-Opt
copy_expr-returns-in_ok-new-in-Opt t c = search (rules, the_lemmas, trees-items)

pub copy_expr-returns-in_ok-new-in-Range : goal.copy_expr-returns-in_ok-new-in-Range
copy_expr-returns-in_ok-new-in-Range t c = search (rules, the_lemmas, trees-items)

pub copy_exprs-loop-item-preserved : goal.copy_exprs-loop-item-preserved
copy_exprs-loop-item-preserved t c =
    one-more _ _ c.in_ok-copy_expr.field-0 c.item-item.result _ _ c.in_ok-push.ensures.items c.loop-item.invariant c.in_ok-copy_expr.ensures c.loop-item-test.true c.item-item.is
