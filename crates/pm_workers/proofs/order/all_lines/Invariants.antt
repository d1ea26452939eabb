use Rattle.std.proofs.Common.{◌≡◌, map, take}
use Rattle.pm_workers.proofs.order.all_lines.Given as goal

abbrev pub invariant-loop-lines : goal.invariant-loop-lines
invariant-loop-lines l = map (λ x. x.now) l.left.items ≡ map (λ v. v.items) (take l.lines-index l.lines)
