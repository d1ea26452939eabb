use Rattle.std.proofs.Common.{◌≡◌}
use Rattle.pm_script.specs.OpenRooms.{rooms_of}
use Rattle.pm_script.proofs.rooms.sessions.Given as goal

abbrev pub invariant-loop-room : goal.invariant-loop-room
invariant-loop-room l = l.sessions.items ≡ rooms_of l.yielded
