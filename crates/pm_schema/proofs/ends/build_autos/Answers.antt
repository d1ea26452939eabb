use Rattle.std.proofs.Common.{◌≡◌, ◌<◌, ◌∙◌, sym, ap, subst, length, get_or, List, Bool, arith}
use Rattle.pm_schema.specs.declared.spec.NodeSpec.{NodeSpec}
use Rattle.pm_schema.specs.Generated.{nth}
use Rattle.pm_schema.specs.Refusals.{inline_table}
use Rattle.pm_schema.specs.Shared.{HasNoFault}
use Rattle.pm_schema.proofs.SameLaws.{one-more-auto}
use Rattle.pm_schema.proofs.ends.build_autos.Goals as goal

pub loop-node-preserved : goal.loop-node-preserved
loop-node-preserved c =
    let l : c.loop-node.node-index < length c.args.spec.now.nodes = omega (arith, ap length c.as_slice-nodes.ensures, c.loop-node-test.true) in
    let e : c.node-item.result ≡ get_or c.args.spec.now.nodes c.loop-node.node-index c.node-item.result = c.node-item.is ∙ ap (λ (ns : List NodeSpec). get_or ns c.loop-node.node-index c.node-item.result) c.as_slice-nodes.ensures in
    let i : c.as_slice-table.result.now ≡ inline_table c.args.spec.now = c.as_slice-table.ensures.value ∙ c.in_ok-inline.ensures in
    one-more-auto c.args.spec.now c.loop-node.autos c.push.new.self c.loop-node.node-index c.node-item.result c.in-Ok.auto c.as_slice-table.result.now c.loop-node.invariant.0 l e i
    c.in_ok-push-in-Ok.ensures.ok c.loop-node.invariant.1 c.loop-node.invariant.2 c.in-Ok.ensures.automaton c.in-Ok.ensures.has

pub auto_of-requires-clause-have : goal.auto_of-requires-clause-have
auto_of-requires-clause-have c = λ j h.
    let k : j < c.loop-node.node-index = omega (arith, h, ap length c.as_slice.ensures, c.loop-node.invariant.0) in
    let has = c.loop-node.invariant.2 j k in
    let i : c.as_slice-table.result.now ≡ inline_table c.args.spec.now = c.as_slice-table.ensures.value ∙ c.in_ok-inline.ensures in
    let here : HasNoFault (nth c.args.spec.now.nodes j).content (inline_table c.args.spec.now) = record { pure = has.pure; narrow = has.narrow } in
    subst (λ (ns : List NodeSpec). HasNoFault (nth ns j).content c.as_slice-table.result.now) (sym c.as_slice-nodes.ensures)
    (subst (λ (t : List Bool). HasNoFault (nth c.args.spec.now.nodes j).content t) (sym i) here)
