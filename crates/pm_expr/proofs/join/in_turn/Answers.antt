use Rattle.std.proofs.Common.{◌≡◌, map, rules, arith}
use Rattle.std.proofs.lemmas.List.{length-map}
use Rattle.pm_auto.specs.declared.expr.Expr.TheViews.{the_lemmas}
use Rattle.pm_auto.specs.Tree.{tree, seq, gathered}
use Rattle.pm_auto.proofs.TreeLaws.{trees-items}
use Rattle.pm_expr.specs.Names.{joined}
use Rattle.pm_expr.proofs.Joins.{joined-many}
use Rattle.pm_expr.proofs.join.in_turn.Goals as goal

pub returns-else-len-eq1 : goal.returns-else-len-eq1
returns-else-len-eq1 c =
    let parts = map tree c.args.parts.items in
    let e : seq (gathered parts) ≡ joined seq parts = joined-many seq parts (λ h. c.if-len-eq1.false (omega (arith, h, length-map c.args.parts.items tree, c.len.ensures))) in
    search (rules, the_lemmas, trees-items, e)
