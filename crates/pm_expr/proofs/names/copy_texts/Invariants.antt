use Rattle.std.proofs.Common.{◌≡◌, take}
use Rattle.pm_expr.specs.Tables.{texts}
use Rattle.pm_expr.proofs.names.copy_texts.Given as goal

abbrev pub invariant-loop-item : goal.invariant-loop-item
invariant-loop-item l = texts l.copies.items ≡ texts (take l.item-index l.items)
