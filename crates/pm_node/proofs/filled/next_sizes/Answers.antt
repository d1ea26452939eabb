use Rattle.std.proofs.Common.{◌≡◌, suc, arith}
use Rattle.std.specs.Prelude.{None}
use Rattle.pm_node.specs.Filled.{filled_tokens}
use Rattle.pm_node.specs.Sizes.{measured}
use Rattle.pm_node.proofs.FilledLaws.{entry-more, length-more}
use Rattle.pm_node.proofs.filled.next_sizes.Goals as goal

pub loop-kind-preserved : goal.loop-kind-preserved
loop-kind-preserved c =
    let s = c.args.schema.now.spec in
    let xs = c.loop-kind.next in
    let i = c.loop-kind.kind in (
      length-more xs c.push.new.self i c.next_size-size.result c.loop-kind.invariant.0 c.in_ok-push.ensures.ok,
      λ n z. entry-more (λ k m. m ≡ measured (filled_tokens s c.args.fills.now (suc n) k)) None xs c.push.new.self i c.next_size-size.result c.loop-kind.invariant.0 c.in_ok-push.ensures.ok (c.loop-kind.invariant.1 n z) (c.next_size-size.ensures n z),
    )

pub returns : goal.returns
returns c = λ n z k l. c.loop-kind.invariant.1 n z k (omega (arith, l, c.loop-kind-test.false, c.node_count-kind-end.ensures))
