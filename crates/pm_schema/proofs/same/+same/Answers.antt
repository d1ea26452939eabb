use Rattle.std.proofs.Common.{rules}
use Rattle.pm_auto.specs.declared.expr.Expr.TheViews.{the_lemmas}
use Rattle.pm_auto.proofs.TreeLaws.{trees-items}
use Rattle.pm_schema.proofs.same.+same.Goals as goal

pub same_expr-returns-in-Choice-Choice : goal.same_expr-returns-in-Choice-Choice
same_expr-returns-in-Choice-Choice t c = search (rules, the_lemmas, trees-items)

pub same_expr-returns-in-Seq-Seq : goal.same_expr-returns-in-Seq-Seq
same_expr-returns-in-Seq-Seq t c = search (rules, the_lemmas, trees-items)
