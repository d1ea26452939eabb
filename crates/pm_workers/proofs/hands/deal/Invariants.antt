use Rattle.std.proofs.Common.{◌≡◌, ◌++◌, drop, map, length}
use Rattle.pm_workers.specs.Threads.{dealt}
use Rattle.pm_workers.proofs.hands.deal.Given as goal

abbrev pub invariant-loop-turn : goal.invariant-loop-turn
invariant-loop-turn g l = record {
  hands : length l.left.items ≡ length l.fn.hands.items;
  dealt : l.dealt.items ++ dealt (drop l.turn-index l.turns) (map (λ q. q.items) l.left.items) ≡ dealt l.turns (map (λ v. v.items) l.fn.hands.items);
}
