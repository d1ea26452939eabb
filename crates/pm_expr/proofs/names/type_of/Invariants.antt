use Rattle.std.proofs.Common.{◌≡◌, map, drop}
use Rattle.std.specs.List.{position_from}
use Rattle.std.specs.Str.{bytes_eq}
use Rattle.pm_expr.specs.Tables.{named}
use Rattle.pm_expr.proofs.names.type_of.Given as goal

abbrev pub invariant-loop-kind : goal.invariant-loop-kind
invariant-loop-kind l = position_from (λ n. bytes_eq l.word n.name) 0 (map named l.types) ≡ position_from (λ n. bytes_eq l.word n.name) l.kind (map named (drop l.kind l.types))
