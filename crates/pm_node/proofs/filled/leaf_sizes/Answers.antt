use Rattle.std.proofs.Common.{◌≡◌, arith}
use Rattle.std.specs.Prelude.{None}
use Rattle.pm_node.specs.Filled.{filled_tokens}
use Rattle.pm_node.specs.Sizes.{measured}
use Rattle.pm_node.proofs.FilledLaws.{entry-more, length-more}
use Rattle.pm_node.proofs.filled.leaf_sizes.Goals as goal

pub loop-kind-preserved : goal.loop-kind-preserved
loop-kind-preserved c =
    let s = c.args.schema.now.spec in
    let xs = c.loop-kind.sizes in
    let i = c.loop-kind.kind in (
      length-more xs c.push.new.self i c.leaf_size-size.result c.loop-kind.invariant.0 c.in_ok-push.ensures.ok,
      λ fills. entry-more (λ k z. z ≡ measured (filled_tokens s fills 0 k)) None xs c.push.new.self i c.leaf_size-size.result c.loop-kind.invariant.0 c.in_ok-push.ensures.ok (c.loop-kind.invariant.1 fills) (c.leaf_size-size.ensures fills),
    )

pub returns : goal.returns
returns c = λ fills k l. c.loop-kind.invariant.1 fills k (omega (arith, l, c.loop-kind-test.false, c.node_count-kind-end.ensures))
