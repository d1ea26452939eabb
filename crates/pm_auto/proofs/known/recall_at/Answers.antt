use Rattle.std.proofs.Common.{arith}
use Rattle.pm_auto.proofs.KnownLaws.{recalls-at}
use Rattle.pm_auto.proofs.known.recall_at.Goals as goal

pub returns-then-is_same : goal.returns-then-is_same
returns-then-is_same c = recalls-at c.args.known.now c.args.index c.index-known-index.result c.args.set.now (omega arith) c.index-known-index.is (c.is_same.ensures c.if-is_same.true)
