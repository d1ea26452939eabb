use Rattle.pm_script.proofs.OpenRooms.{no-rooms}
use Rattle.pm_script.proofs.rooms.rooms_of.Goals as goal

pub returns-in_default : goal.returns-in_default
returns-in_default c = no-rooms c.args.input.now c.in_default.ensures.lines
