use Rattle.std.proofs.Common.{◌≡◌, take}
use Rattle.pm_expr.specs.Tables.{texts}
use Rattle.pm_schemajson.proofs.exprs.strings.Given as goal

abbrev pub invariant-loop-item : goal.invariant-loop-item
invariant-loop-item l = texts l.copies.items ≡ take l.item-index l.items
