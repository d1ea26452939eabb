use Rattle.std.proofs.Common.{◌≡◌, ◌≤◌, ◌+◌, length}
use Rattle.pm_head.specs.Lines.{lines_of}
use Rattle.pm_script.specs.Rooms.{rooms_behind}
use Rattle.pm_script.specs.OpenRooms.{rooms_of, HaveAtMost}
use Rattle.pm_script.proofs.rooms.with_lines.Given as goal

abbrev pub invariant-loop-line : goal.invariant-loop-line
invariant-loop-line l = record {
  number : l.number ≤ l.last + 1;
  few : HaveAtMost l.number l.rooms.items;
  read : rooms_behind l.last (rooms_of l.rooms.items) l.number (lines_of l.rest) ≡ rooms_behind l.last (rooms_of l.initial.rooms.items) l.first (lines_of l.input);
}

abbrev pub decreases-loop-line : goal.decreases-loop-line
decreases-loop-line l = length l.rest
