use Rattle.std.proofs.Common.{◌<◌, subst, ap, arith, length}
use Rattle.serde_json.specs.View.{view, items_view}
use Rattle.pm_node.specs.Trees.{node_tokens}
use Rattle.pm_node.specs.declared.node.Node.{Node}
use Rattle.pm_node.proofs.WalkLaws.{child-within, in-range}
use Rattle.pm_docjson.proofs.MarksAgain.{MarksIf, marks-read}
use Rattle.pm_docjson.proofs.NodeLaws.{inside-writable}
use Rattle.pm_docjson.proofs.NodesAgain.{text-parts, leaf-parts, branch-parts, type-parts, marks-of, nodes-read, text-node-again, leaf-node-again, branch-node-again, branch-node-written, node-size}
use Rattle.pm_docjson.proofs.writing_nodes.+write.Goals as goal

pub node_json-nodes_json-requires : goal.node_json-nodes_json-requires
node_json-nodes_json-requires t c = omega (arith, c.decreases, node-size c.args.node.now c.in-Children.content c.in-Children.is, ap length c.children.ensures.tokens)

pub node_json-returns-in_ok-json-in-Text-clause-again : goal.node_json-returns-in_ok-json-in-Text-clause-again
node_json-returns-in_ok-json-in-Text-clause-again t c =
    let s = c.args.schema.now.spec in
    let n = c.args.node.now in
    let w = c.in_ok-json-in-Text.ensures in
    λ can l.
    let p = text-parts s n c.in-Text.units c.in-Text.is can in
    let marks = marks-read s n.marks (subst (MarksIf s) c.marks-marks.ensures w.again) (marks-of s n.marks p.marks) in
    text-node-again s l n c.in-Text.units w.named w.plain c.in-Text.is can (w.units p.whole) marks

pub node_json-returns-in_ok-json-in-Leaf-clause-again : goal.node_json-returns-in_ok-json-in-Leaf-clause-again
node_json-returns-in_ok-json-in-Leaf-clause-again t c =
    let s = c.args.schema.now.spec in
    let n = c.args.node.now in
    let w = c.in_ok-json-in-Leaf.ensures in
    λ can l.
    let p = leaf-parts s n c.in-Leaf.is can in
    let k = type-parts s n.kind n.attrs p.fits in
    let marks = marks-read s n.marks (subst (MarksIf s) c.marks-marks.ensures w.again) (marks-of s n.marks p.marks) in
    leaf-node-again s l n (w.named k.inside) c.in-Leaf.is can (w.attrs k.attrs) marks

pub node_json-returns-in_ok-json-in-Children-clause-written : goal.node_json-returns-in_ok-json-in-Children-clause-written
node_json-returns-in_ok-json-in-Children-clause-written t c =
    branch-node-written c.args.schema.now.spec c.args.node.now c.in-Children.content c.children.result c.marks-marks.result.now (view c.in_ok-json-in-Children.json) (items_view c.in_ok-items-in-Children.items.items) c.in-Children.is c.children.ensures.tokens c.children.ensures.normal c.children.ensures.each c.marks-marks.ensures
    c.in_ok-json-in-Children.ensures.written c.in_ok-items-in-Children.ensures.written

pub node_json-returns-in_ok-json-in-Children-clause-again : goal.node_json-returns-in_ok-json-in-Children-clause-again
node_json-returns-in_ok-json-in-Children-clause-again t c =
    let s = c.args.schema.now.spec in
    let n = c.args.node.now in
    let ts = c.in-Children.content in
    let xs = c.children.result in
    let w = c.in_ok-json-in-Children.ensures in
    let bound : length ts < 4294967296 = omega (arith, c.size.ensures.size, c.size.ensures.bound) in
    λ can l.
    let p = branch-parts s n ts c.in-Children.is can in
    let k = type-parts s n.kind n.attrs p.fits in
    let marks = marks-read s n.marks (subst (MarksIf s) c.marks-marks.ensures w.again) (marks-of s n.marks p.marks) in
    let inner = nodes-read s xs c.in_ok-items-in-Children.ensures.again (inside-writable s n ts xs c.in-Children.is c.children.ensures.tokens c.children.ensures.normal can) in
    branch-node-again s l n ts xs (w.named k.inside) c.in-Children.is can (w.attrs k.attrs) marks bound c.children.ensures.tokens c.children.ensures.normal c.children.ensures.each inner

pub nodes_json-node_json-requires : goal.nodes_json-node_json-requires
nodes_json-node_json-requires t c =
    let within = child-within c.args.nodes.now c.loop-i.i c.get.result.now (in-range c.len-i-end.ensures c.loop-i-test.true) c.get.ensures in
    let size = ap (λ (n : Node). length (node_tokens n)) c.deref.ensures in
    omega (arith, c.decreases, within, size)
