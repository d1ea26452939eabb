use Rattle.std.proofs.Common.{◌≡◌, ◌++◌, drop}
use Rattle.pm_workers.specs.Threads.{in_order}
use Rattle.pm_workers.proofs.hands.pick.Given as goal

abbrev pub invariant-loop-place : goal.invariant-loop-place
invariant-loop-place l = l.picked.items ++ in_order l.clients (drop l.place-index l.order) ≡ in_order l.clients l.order
