use Rattle.std.proofs.Common.{◌≡◌, ◌+◌, ◌*◌, List, drop, Result}
use Rattle.pm_list.specs.Readings.{with_front}
use Rattle.pm_head.specs.declared.fault.Refusal.{Refusal}
use Rattle.pm_head.specs.Lines.{lines_of}
use Rattle.pm_script.specs.declared.rooms.RoomSession.{RoomSession}
use Rattle.pm_script.specs.Rooms.{AreOpened}
use Rattle.pm_script.specs.OpenRooms.{rooms_of, HaveAtMost}
use Rattle.pm_script.proofs.rooms.open_rooms.Given as goal

abbrev pub invariant-loop-name : goal.invariant-loop-name
invariant-loop-name l = record {
  line : l.line ≡ 3 * l.name-index + 1;
  rest : lines_of l.rest ≡ drop (3 * l.name-index) (lines_of l.input);
  none : HaveAtMost 0 l.rooms.items;
  read : (r : Result (List RoomSession) Refusal) → AreOpened (drop l.name-index l.names) l.line (lines_of l.rest) r → AreOpened l.names 1 (lines_of l.input) (with_front (rooms_of l.rooms.items) r);
}
