use Rattle.pm_laws.proofs.OneRunOfRooms.{orders-fix}
use Rattle.pm_laws.proofs.laws.orders_fix_rooms.Goals as goal

pub returns : goal.returns
returns c = orders-fix c.args.input.now
