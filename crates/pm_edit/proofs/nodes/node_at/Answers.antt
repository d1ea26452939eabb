use Rattle.std.proofs.Common.{◌<◌, ◌≤◌, length, arith}
use Rattle.pm_node.specs.Documents.{doc_of}
use Rattle.pm_edit.proofs.NodeLaws.{at-end, found-none, found-some, found-end, found-within}
use Rattle.pm_edit.proofs.nodes.node_at.Goals as goal

pub returns-then-pos-size : goal.returns-then-pos-size
returns-then-pos-size c = at-end c.args.doc.now c.args.pos (omega (arith, c.if-pos-size.true, c.size-size.ensures))

pub returns-then-start-next : goal.returns-then-start-next
returns-then-start-next c =
    let inside : c.args.pos < length c.args.doc.now.tokens = omega (arith, c.requires.within, c.if-pos-size.false, c.size-size.ensures) in
    found-none c.args.doc.now _ c.args.pos _ _ _ inside c.in_ok-place.ensures.document c.in_ok-place.ensures.position c.depth-depth.ensures c.start-start.ensures c.if-start-next.true

pub overflow_add-result : goal.overflow_add-result
overflow_add-result c =
    let inside : c.args.pos < length c.args.doc.now.tokens = omega (arith, c.requires.within, c.if-pos-size.false, c.size-size.ensures) in
    let within : c.end-inner_end.result ≤ length c.args.doc.now.tokens =
    found-within c.args.doc.now _ c.args.pos _ _ _ inside c.in_ok-place.ensures.document c.in_ok-place.ensures.position c.depth-depth.ensures c.start-start.ensures c.if-start-next.false (doc_of c.node-node.result.now) c.node-node.ensures.node c.end-inner_end.result c.end-inner_end.ensures in
    omega (arith, within, c.requires.small)

pub returns : goal.returns
returns c =
    let inside : c.args.pos < length c.args.doc.now.tokens = omega (arith, c.requires.within, c.if-pos-size.false, c.size-size.ensures) in
    record {
      node = found-some c.args.doc.now _ c.args.pos _ _ _ inside c.in_ok-place.ensures.document c.in_ok-place.ensures.position c.depth-depth.ensures c.start-start.ensures c.if-start-next.false (doc_of c.node-node.result.now) c.node-node.ensures.node;
      end = found-end c.args.doc.now _ c.args.pos _ _ _ inside c.in_ok-place.ensures.document c.in_ok-place.ensures.position c.depth-depth.ensures c.start-start.ensures c.if-start-next.false (doc_of c.node-node.result.now) c.node-node.ensures.node c.end-inner_end.result c.end-inner_end.ensures;
    }
