use Rattle.std.proofs.Common.{◌≡◌, map}
use Rattle.pm_workers.proofs.hiring.dismiss.Given as goal

abbrev pub invariant-loop-worker : goal.invariant-loop-worker
invariant-loop-worker g l = record {
  members : l.left.members.items ≡ map (λ w. w.member) l.yielded;
  seats : l.left.seats.items ≡ map (λ w. w.seat) l.yielded;
  lines : l.left.lines.items ≡ map (λ w. w.lines) l.yielded;
  outcomes : l.left.outcomes.items ≡ map (λ w. w.outcomes) l.yielded;
}
