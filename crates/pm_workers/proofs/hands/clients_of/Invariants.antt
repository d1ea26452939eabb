use Rattle.std.proofs.Common.{◌≡◌, map, take}
use Rattle.pm_workers.proofs.hands.clients_of.Given as goal

abbrev pub invariant-loop-line : goal.invariant-loop-line
invariant-loop-line g l = l.clients.items ≡ map (λ line. line.client) (take l.line-index l.lines)
