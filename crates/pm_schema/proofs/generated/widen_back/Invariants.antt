use Rattle.std.proofs.Common.{◌≤◌}
use Rattle.pm_schema.specs.Generated.{HasFilled, falses}
use Rattle.pm_schema.proofs.generated.widen_back.Given as goal

abbrev pub invariant-loop-k : goal.invariant-loop-k
invariant-loop-k l = record {
  filled : HasFilled l.nodes l.initial.table → HasFilled l.nodes l.table;
  fewer : falses l.table ≤ falses l.initial.table;
}
