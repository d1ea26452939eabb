use Rattle.std.proofs.Common.{arith}
use Rattle.pm_node.proofs.FilledLaws.{fills-none, fills-more, fills-all}
use Rattle.pm_node.proofs.filled.fills_of.Goals as goal

pub loop-kind-init : goal.loop-kind-init
loop-kind-init c = fills-none c.args.schema.now c.new-fills.result c.new-fills.ensures

pub loop-kind-preserved : goal.loop-kind-preserved
loop-kind-preserved c =
    fills-more c.args.schema.now c.loop-kind.fills c.push.new.self c.loop-kind.kind c.in_ok-fill.fill c.loop-kind.invariant c.in_ok-push.ensures.ok c.in_ok-fill.ensures.shortest c.in_ok-fill.ensures.made

pub returns : goal.returns
returns c = fills-all c.args.schema.now c.loop-kind.fills c.loop-kind.kind (omega (arith, c.loop-kind-test.false, c.node_count-kind-end.ensures)) c.loop-kind.invariant
