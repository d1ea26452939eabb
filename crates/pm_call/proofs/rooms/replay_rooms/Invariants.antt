use Rattle.std.proofs.Common.{◌≡◌, ◌++◌, drop, string_bytes}
use Rattle.pm_call.specs.RoomReports.{rooms_report}
use Rattle.pm_call.proofs.rooms.replay_rooms.Given as goal

abbrev pub invariant-loop-room : goal.invariant-loop-room
invariant-loop-room l = string_bytes l.text ++ rooms_report (drop l.room-index l.rooms) ≡ rooms_report l.rooms
