use Rattle.std.proofs.Common.{◌≡◌, map, take}
use Rattle.pm_expr.specs.Tables.{named}
use Rattle.pm_expr.proofs.names.copy_types.Given as goal

abbrev pub invariant-loop-kind : goal.invariant-loop-kind
invariant-loop-kind l = map named l.copies.items ≡ map named (take l.kind-index l.types)
