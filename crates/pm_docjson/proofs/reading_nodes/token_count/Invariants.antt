use Rattle.std.proofs.Common.{◌≡◌, length, min, take}
use Rattle.pm_node.specs.Trees.{nodes_tokens}
use Rattle.pm_docjson.proofs.reading_nodes.token_count.Given as goal

abbrev pub invariant-loop-node : goal.invariant-loop-node
invariant-loop-node l = l.count ≡ min (length (nodes_tokens (take l.node-index l.nodes))) 18446744073709551615
