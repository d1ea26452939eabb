use Rattle.std.specs.Prelude.{None, take}
use Rattle.std.proofs.Common.{length, ap, ◌∙◌}
use Rattle.pm_tokens.specs.Kids.{kids}
use Rattle.pm_schema.specs.Documents.{documents_of}
use Rattle.pm_node.specs.Trees.{node_tokens}
use Rattle.pm_node.specs.Kinds.{kind_in}
use Rattle.pm_node.proofs.WalkLaws.{in-range, past-range}
use Rattle.pm_fit.proofs.TypeLaws.{seen-none, seen-more, seen-stop, seen-end}
use Rattle.pm_fit.proofs.types.types_within.Goals as goal

pub loop-i-init : goal.loop-i-init
loop-i-init c = seen-none (documents_of c.args.schema.now.spec).text c.children-children.result c.args.pos c.new-types.result c.new-types.ensures

pub loop-i-preserved : goal.loop-i-preserved
loop-i-preserved c =
    let text = (documents_of c.args.schema.now.spec).text in
    let e = c.children-children.ensures in
    seen-more text c.children-children.result c.args.pos c.loop-i.i c.loop-i.rest c.saturating_sub-rest.result c.size.result c.loop-i.types _ c.get.result.now c.type_of.result e.normal e.each (in-range c.len-i-end.ensures c.loop-i-test.true) c.get.ensures
    c.if-rest-eq0.false (c.size.ensures.size ∙ ap (λ n. length (node_tokens n)) c.deref-node.ensures) c.saturating_sub-rest.ensures (c.type_of.ensures ∙ ap (kind_in text) c.deref-node.ensures) c.in_ok-push.ensures.ok c.loop-i.invariant

pub returns-then-rest-eq0 : goal.returns-then-rest-eq0
returns-then-rest-eq0 c =
    let text = (documents_of c.args.schema.now.spec).text in
    seen-stop text c.children-children.result c.args.pos c.loop-i.i c.loop-i.rest c.loop-i.types c.if-rest-eq0.true c.loop-i.invariant ∙ ap (λ ts. kids text 0 None (take c.args.pos ts)) c.children-children.ensures.tokens

pub returns : goal.returns
returns c =
    let text = (documents_of c.args.schema.now.spec).text in
    seen-end text c.children-children.result c.args.pos c.loop-i.i c.loop-i.rest c.loop-i.types (past-range c.len-i-end.ensures c.loop-i-test.false) c.loop-i.invariant ∙ ap (λ ts. kids text 0 None (take c.args.pos ts)) c.children-children.ensures.tokens
