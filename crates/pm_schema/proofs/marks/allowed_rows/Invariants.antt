use Rattle.std.proofs.Common.{◌≡◌, map, take}
use Rattle.pm_schema.specs.MarkTexts.{allowed_row}
use Rattle.pm_schema.proofs.marks.allowed_rows.Given as goal

abbrev pub invariant-loop-k : goal.invariant-loop-k
invariant-loop-k l = l.rows ≡ map (allowed_row l.spec) (take l.k l.nodes)
