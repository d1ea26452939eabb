use Rattle.pm_auto.proofs.KnownLaws.{recalls-at}
use Rattle.pm_auto.proofs.known.recall_any.Goals as goal

pub returns-then-is_same : goal.returns-then-is_same
returns-then-is_same c = recalls-at c.args.known.now c.loop-other.other-index c.other-item.result c.args.set.now c.loop-other-test.true c.other-item.is (c.is_same.ensures c.if-is_same.true)
