use Rattle.std.proofs.Common.{◌≡◌, map, take}
use Rattle.pm_auto.specs.Tree.{tree}
use Rattle.pm_auto.proofs.copies.+copy_expr.Given as goal

abbrev pub invariant-copy_exprs-loop-item : goal.invariant-copy_exprs-loop-item
invariant-copy_exprs-loop-item l = map tree l.copies.items ≡ map tree (take l.item-index l.items)
