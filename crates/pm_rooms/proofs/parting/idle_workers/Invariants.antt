use Rattle.std.proofs.Common.{◌≡◌, [], map, All}
use Rattle.pm_rooms.proofs.parting.idle_workers.Given as goal

abbrev pub invariant-loop-stand : goal.invariant-loop-stand
invariant-loop-stand g l = record {
  members : map (λ w. w.member) l.workers.items ≡ map (λ x. x.member) l.yielded;
  seats : map (λ w. w.seat) l.workers.items ≡ map (λ x. x.seat) l.yielded;
  idle : All (λ w. w.lines.items ≡ [] × w.outcomes.items ≡ []) l.workers.items;
}
