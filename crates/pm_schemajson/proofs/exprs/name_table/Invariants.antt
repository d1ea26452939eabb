use Rattle.std.proofs.Common.{◌≡◌, map, take}
use Rattle.pm_expr.specs.Tables.{named as name_groups}
use Rattle.pm_schemajson.specs.Contents.{named}
use Rattle.pm_schemajson.specs.Views.{node_texts}
use Rattle.pm_schemajson.proofs.exprs.name_table.Given as goal

abbrev pub invariant-loop-node : goal.invariant-loop-node
invariant-loop-node l = map name_groups l.table.items ≡ map named (node_texts (take l.node-index l.nodes))
