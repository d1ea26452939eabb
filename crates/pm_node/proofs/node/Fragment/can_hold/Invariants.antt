use Rattle.std.proofs.Common.{◌≡◌, ◌+◌, ◌≤◌, length, drop}
use Rattle.pm_node.specs.Trees.{nodes_tokens}
use Rattle.pm_node.proofs.node.Fragment.can_hold.Given as goal

abbrev pub invariant-loop-node : goal.invariant-loop-node
invariant-loop-node l = (l.total + length (nodes_tokens (drop l.node-index l.nodes)) ≡ length (nodes_tokens l.nodes)) × (l.total ≤ 4294967295)
