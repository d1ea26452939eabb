use Rattle.std.proofs.Common.{◌≡◌, ◌++◌, map, drop}
use Rattle.pm_schema.specs.MarkTexts.{excluded_rows, exclude_table}
use Rattle.pm_schema.proofs.marks.exclude_rules.Given as goal

abbrev pub invariant-loop-k : goal.invariant-loop-k
invariant-loop-k l = exclude_table l.spec ≡ map (λ row. row.items) l.rows.items ++ excluded_rows l.spec.marks l.k (drop l.k l.marks)
