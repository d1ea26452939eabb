use Rattle.std.proofs.Common.{◌≡◌, ◌*◌, ◌+◌, map, take, length}
use Rattle.std.specs.Arc.{arc_value}
use Rattle.serde_json.specs.View.{view}
use Rattle.pm_node.specs.Trees.{node_tokens, list_tokens}
use Rattle.pm_docjson.specs.Writing.{node_written}
use Rattle.pm_docjson.proofs.NodesAgain.{NodesIf}
use Rattle.pm_docjson.proofs.writing_nodes.+write.Given as goal

abbrev pub decreases-node_json : goal.decreases-node_json
decreases-node_json l = 2 * length (node_tokens l.node.now)

abbrev pub decreases-nodes_json : goal.decreases-nodes_json
decreases-nodes_json l = 2 * length (list_tokens l.nodes.now) + 1

abbrev pub invariant-nodes_json-loop-i : goal.invariant-nodes_json-loop-i
invariant-nodes_json-loop-i l = (map view l.items.items ≡ map (λ x. node_written l.schema.spec (arc_value x)) (take l.i l.nodes)) × NodesIf l.schema.spec (take l.i l.nodes)
