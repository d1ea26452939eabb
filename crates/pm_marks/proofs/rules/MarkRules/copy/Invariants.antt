use Rattle.std.proofs.Common.{◌≡◌, take, map}
use Rattle.pm_marks.proofs.rules.MarkRules.copy.Given as goal

abbrev pub invariant-loop-row : goal.invariant-loop-row
invariant-loop-row l = map (λ r. r.items) l.table.items ≡ map (λ r. r.items) (take l.row-index l.row-items)
