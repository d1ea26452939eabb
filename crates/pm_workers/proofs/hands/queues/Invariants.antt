use Rattle.std.proofs.Common.{◌≡◌, map}
use Rattle.pm_workers.proofs.hands.queues.Given as goal

abbrev pub invariant-loop-hand : goal.invariant-loop-hand
invariant-loop-hand g l = map (λ q. q.items) l.queues.items ≡ map (λ v. v.items) l.yielded
