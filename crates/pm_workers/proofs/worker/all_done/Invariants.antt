use Rattle.std.proofs.Common.{◌≡◌, All, length, take}
use Rattle.pm_workers.proofs.worker.all_done.Given as goal

abbrev pub invariant-loop-worker : goal.invariant-loop-worker
invariant-loop-worker g l = All (λ w. length w.outcomes.items ≡ length w.lines.items) (take l.worker-index l.workers)
