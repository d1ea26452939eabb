use Rattle.pm_order.proofs.Pairs.{too-short, too-long}
use Rattle.pm_order.proofs.positions.pair_from.Goals as goal

pub returns-in_default : goal.returns-in_default
returns-in_default c = too-short c.args.items.now c.in_default.len_below

pub returns-in_default-2 : goal.returns-in_default-2
returns-in_default-2 c = too-long c.args.items.now c.in_default.len_at_least
