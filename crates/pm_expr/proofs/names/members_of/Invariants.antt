use Rattle.std.proofs.Common.{◌≡◌, ◌++◌, map, drop}
use Rattle.pm_auto.specs.Tree.{tree, one}
use Rattle.pm_expr.specs.Names.{members}
use Rattle.pm_expr.specs.Tables.{named}
use Rattle.pm_expr.proofs.names.members_of.Given as goal

abbrev pub invariant-loop-kind : goal.invariant-loop-kind
invariant-loop-kind l = map tree l.group.items ++ map one (members l.kind (map named (drop l.kind l.types)) l.word) ≡ map one (members 0 (map named l.types) l.word)
