use Rattle.std.proofs.Common.{◌≡◌, map, take}
use Rattle.pm_schema.specs.Made.{can_wrap}
use Rattle.pm_schema.proofs.build.wrappers.Given as goal

abbrev pub invariant-loop-node : goal.invariant-loop-node
invariant-loop-node l = l.list ≡ map can_wrap (take l.node-index l.nodes)
