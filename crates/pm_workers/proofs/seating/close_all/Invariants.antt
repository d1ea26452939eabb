use Rattle.std.proofs.Common.{◌≡◌, map}
use Rattle.pm_desk.specs.Desks.{IsSeatOf}
use Rattle.pm_workers.specs.Seatings.{as_joined, IsCovered}
use Rattle.pm_workers.proofs.seating.close_all.Given as goal

abbrev pub invariant-loop-seat : goal.invariant-loop-seat
invariant-loop-seat g l = record {
  seat : IsSeatOf l.desk l.first;
  number : l.first.number ≡ 0;
  splits : l.first.splits ≡ l.initial.first.splits;
  joined : l.first.joined ≡ map as_joined l.yielded;
  covered : IsCovered l.first.seen l.initial.first;
}
