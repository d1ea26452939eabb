use Rattle.std.proofs.Common.{◌≡◌, map, take}
use Rattle.pm_schema.specs.Types.{is_inline}
use Rattle.pm_schema.proofs.ends.inline_table.Given as goal

abbrev pub invariant-loop-node : goal.invariant-loop-node
invariant-loop-node l = l.table.items ≡ map is_inline (take l.node-index l.nodes)
