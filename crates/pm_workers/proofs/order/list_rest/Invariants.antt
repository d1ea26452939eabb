use Rattle.std.proofs.Common.{◌≡◌, ◌++◌, take, map, flat_map}
use Rattle.pm_workers.specs.Merges.{numbers}
use Rattle.pm_workers.proofs.order.list_rest.Given as goal

abbrev pub invariant-loop-lines : goal.invariant-loop-lines
invariant-loop-lines l = l.order.items ≡ l.initial.order.items ++ flat_map numbers (map (λ x. x.now) (take l.lines-index l.left))
