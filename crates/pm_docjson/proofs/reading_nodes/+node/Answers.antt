use Rattle.std.proofs.Common.{arith, rules, ◌<◌, length, map, ◌≡◌}
use Rattle.std.specs.Prelude.{Some, codes}
use Rattle.serde_json.specs.Find.{as_array}
use Rattle.serde_json.specs.View.{items_of}
use Rattle.pm_schema.specs.Documents.{documents_of}
use Rattle.pm_docjson.specs.Fields.{field}
use Rattle.pm_docjson.proofs.Bodies.{same_type, other_type}
use Rattle.pm_docjson.proofs.TokenFronts.{node_list-step}
use Rattle.pm_docjson.proofs.Content.{as_text, as_branch}
use Rattle.pm_docjson.proofs.Depth.{content-falls, item-falls}
use Rattle.pm_docjson.proofs.reading_nodes.+node.Goals as goal

pub content_of-node_list-requires : goal.content_of-node_list-requires
content_of-node_list-requires g t c κs within =
    let d = g.J.JsonRef.seen c.args.json in
    let e = g.J.JsonRef.seen c.in-Some.value in
    let ds = items_of (map g.J.JsonRef.seen c.as_slice.result.now) in
    let found : field (codes "content") d ≡ Some e = search rules in
    let listed : as_array e ≡ Some ds = search rules in
    (omega (arith, c.decreases, content-falls (codes "content") d e ds found listed), within)

pub node_list-node_of-requires : goal.node_list-node_of-requires
node_list-node_of-requires g t c κs within =
    let inside : c.loop-item.item-index < length c.args.items.now = omega arith in
    (omega (arith, c.decreases, item-falls g.J.JsonRef.seen c.args.items.now c.loop-item.item-index c.item-item.result inside c.item-item.is), within)

pub node_of-returns-then-kind-text_type : goal.node_of-returns-then-kind-text_type
node_of-returns-then-kind-text_type g t c =
    let same = same_type c.in_ok-kind.kind c.text_type.result (documents_of c.args.schema.now.spec).text c.if-kind-text_type.true c.text_type.ensures.text in
    rw (as_text c.args.schema.now.spec c.args.leaves (g.J.JsonRef.seen c.args.json) c.in_ok-name.name.now c.in_ok-kind.kind (search rules) (search rules) same) c.text_from.ensures

pub node_of-returns-else-kind-text_type : goal.node_of-returns-else-kind-text_type
node_of-returns-else-kind-text_type g t c =
    let other = other_type c.in_ok-kind.kind c.text_type.result (documents_of c.args.schema.now.spec).text c.if-kind-text_type.false c.text_type.ensures.text in
    rw (as_branch c.args.schema.now.spec c.args.leaves (g.J.JsonRef.seen c.args.json) c.in_ok-name.name.now c.in_ok-kind.kind (search rules) (search rules) other) c.branch_from.ensures

pub node_list-loop-item-preserved : goal.node_list-loop-item-preserved
node_list-loop-item-preserved g t c =
    node_list-step g.J.JsonRef.seen c.args.schema.now.spec c.args.leaves c.loop-item.nodes.items c.push.new.self.items c.in_ok-node_of.field-0 c.args.items.now c.loop-item.item-index c.item-item.result _ c.loop-item-test.true c.item-item.is c.in_ok-node_of.ensures c.in_ok-push.ensures.items c.loop-item.invariant
