use Rattle.std.proofs.Common.{arith}
use Rattle.pm_docjson.proofs.TokenFronts.{tokens-more}
use Rattle.pm_docjson.proofs.reading_nodes.token_count.Goals as goal

pub loop-node-preserved : goal.loop-node-preserved
loop-node-preserved c =
    let more = tokens-more c.args.nodes.now c.loop-node.node-index c.node-item.result c.loop-node-test.true c.node-item.is in
    omega (arith, more)
