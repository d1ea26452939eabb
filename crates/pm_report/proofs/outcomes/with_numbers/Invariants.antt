use Rattle.std.proofs.Common.{◌≡◌, ◌++◌, drop}
use Rattle.std.specs.Vec.Iter.{into_iter_items}
use Rattle.pm_report.specs.Outcomes.{with_numbers}
use Rattle.pm_report.proofs.outcomes.with_numbers.Given as goal

abbrev pub invariant-loop-line : goal.invariant-loop-line
invariant-loop-line l = l.told.items ++ with_numbers (drop l.line-index l.lines) (into_iter_items l.rest) ≡ with_numbers l.lines l.fn.outcomes.items
