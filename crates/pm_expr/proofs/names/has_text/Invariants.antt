use Rattle.std.proofs.Common.{◌≡◌, drop}
use Rattle.std.specs.List.{list_any}
use Rattle.std.specs.Str.{bytes_eq}
use Rattle.pm_expr.specs.Tables.{texts}
use Rattle.pm_expr.proofs.names.has_text.Given as goal

abbrev pub invariant-loop-item : goal.invariant-loop-item
invariant-loop-item l = list_any (bytes_eq l.word) (texts l.items) ≡ list_any (bytes_eq l.word) (texts (drop l.item-index l.items))
