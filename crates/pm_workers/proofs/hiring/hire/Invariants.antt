use Rattle.std.proofs.Common.{◌≡◌, [], map, All}
use Rattle.pm_workers.proofs.hiring.hire.Given as goal

abbrev pub invariant-loop-member : goal.invariant-loop-member
invariant-loop-member g l = record {
  members : map (λ w. w.member) l.workers.items ≡ map (λ p. p.0.0) l.yielded;
  seats : map (λ w. w.seat) l.workers.items ≡ map (λ p. p.0.1) l.yielded;
  lines : map (λ w. w.lines) l.workers.items ≡ map (λ p. p.1) l.yielded;
  none : All (λ w. w.outcomes.items ≡ []) l.workers.items;
}
