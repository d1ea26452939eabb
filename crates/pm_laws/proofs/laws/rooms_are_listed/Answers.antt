use Rattle.pm_laws.proofs.ListedRooms.{rooms-listed}
use Rattle.pm_laws.proofs.laws.rooms_are_listed.Goals as goal

pub returns : goal.returns
returns c = rooms-listed c.args.input.now
