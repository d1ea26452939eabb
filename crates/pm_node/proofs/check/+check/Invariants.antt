use Rattle.std.proofs.Common.{◌+◌, ◌*◌, length}
use Rattle.pm_schema.specs.Documents.{documents_of}
use Rattle.pm_node.specs.Trees.{node_tokens}
use Rattle.pm_node.proofs.FaultWalk.{Sound}
use Rattle.pm_node.proofs.check.+check.Given as goal

abbrev pub invariant-nodes_fault-loop-i : goal.invariant-nodes_fault-loop-i
invariant-nodes_fault-loop-i l = Sound (documents_of l.schema.spec) l.parent l.children l.i l.fn.at l.at

abbrev pub decreases-nodes_fault : goal.decreases-nodes_fault
decreases-nodes_fault l = 2 * length l.content.now + 1

abbrev pub decreases-node_fault : goal.decreases-node_fault
decreases-node_fault l = 2 * length (node_tokens l.node.now)
