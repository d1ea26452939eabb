use Rattle.std.proofs.Common.{◌≡◌, ◌++◌, drop, map, length}
use Rattle.pm_workers.specs.Merges.{merged}
use Rattle.pm_workers.proofs.order.list_calls.Given as goal

abbrev pub invariant-loop-past : goal.invariant-loop-past
invariant-loop-past g l =
    (l.order.items ++ merged (map (λ past. past.seat) (drop l.past-index l.history)) (map (λ x. x.now) l.left.items)
    ≡ l.initial.order.items ++ merged (map (λ past. past.seat) l.history) (map (λ x. x.now) l.initial.left.items))
    × (length l.left.items ≡ length l.initial.left.items)
