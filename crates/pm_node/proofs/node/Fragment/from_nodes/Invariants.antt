use Rattle.std.proofs.Common.{◌≡◌, ◌++◌}
use Rattle.pm_node.specs.Trees.{some_tokens, nodes_tokens}
use Rattle.pm_node.proofs.node.Fragment.from_nodes.Given as goal

abbrev pub invariant-loop-node : goal.invariant-loop-node
invariant-loop-node l = l.made ++ (some_tokens l.last ++ nodes_tokens l.node-iterator.rest.items) ≡ nodes_tokens l.fn.nodes.items
