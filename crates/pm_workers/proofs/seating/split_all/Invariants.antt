use Rattle.std.proofs.Common.{◌≡◌}
use Rattle.pm_desk.specs.Desks.{first_seat}
use Rattle.pm_workers.specs.Seatings.{unused_seats}
use Rattle.pm_workers.proofs.seating.split_all.Given as goal

abbrev pub invariant-loop-i : goal.invariant-loop-i
invariant-loop-i g l = record {
  first : l.first ≡ record (first_seat l.desk) { splits = l._i };
  seats : l.seats.items ≡ unused_seats l.desk 1 l._i;
}
