use Rattle.pm_laws.proofs.OneRunOfRooms.{order-fixes}
use Rattle.pm_laws.proofs.laws.order_fixes_run.Goals as goal

pub returns : goal.returns
returns c = order-fixes c.args.input.now
