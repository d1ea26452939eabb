use Rattle.std.proofs.Common.{◌≡◌, ◌+◌, ◌++◌, length}
use Rattle.pm_rooms.specs.Opened.{stands_of}
use Rattle.pm_rooms.proofs.opening.stand_up.Given as goal

abbrev pub invariant-loop-client : goal.invariant-loop-client
invariant-loop-client g l = record {
  members : length l.members.items + l.client ≡ length l.fn.members.items;
  seats : length l.seats.items ≡ length l.members.items;
  stands : l.stands.items ++ stands_of l.room l.client l.members.items l.seats.items ≡ l.fn.stands.items ++ stands_of l.room 0 l.fn.members.items l.fn.seats.items;
}
