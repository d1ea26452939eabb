use Rattle.std.proofs.Common.{◌≡◌, drop, map, ◌*◌, ◌+◌}
use Rattle.serde_json.specs.Data.{depth, items_depth}
use Rattle.serde_json.specs.View.{items_of}
use Rattle.pm_node.specs.Trees.{nodes_tokens}
use Rattle.pm_docjson.proofs.TokenFronts.{with_tokens}
use Rattle.pm_docjson.specs.Reading.{node_list}
use Rattle.pm_docjson.proofs.reading_nodes.+node.Given as goal

abbrev pub decreases-node_of : goal.decreases-node_of
decreases-node_of g l = 5 * depth (g.J.JsonRef.seen l.json) + 4

abbrev pub decreases-branch_from : goal.decreases-branch_from
decreases-branch_from g l = 5 * depth (g.J.JsonRef.seen l.json) + 3

abbrev pub decreases-content_for : goal.decreases-content_for
decreases-content_for g l = 5 * depth (g.J.JsonRef.seen l.json) + 2

abbrev pub decreases-content_of : goal.decreases-content_of
decreases-content_of g l = 5 * depth (g.J.JsonRef.seen l.json) + 1

abbrev pub decreases-node_list : goal.decreases-node_list
decreases-node_list g l = 5 * items_depth (items_of (map g.J.JsonRef.seen l.items.now)) + 5

abbrev pub invariant-node_list-loop-item : goal.invariant-node_list-loop-item
invariant-node_list-loop-item g l =
    with_tokens (nodes_tokens l.nodes.items) (node_list l.schema.spec l.leaves (items_of (map g.J.JsonRef.seen (drop l.item-index l.items)))) ≡ node_list l.schema.spec l.leaves (items_of (map g.J.JsonRef.seen l.items))
