use Rattle.std.proofs.Common.{◌≡◌, ◌≤◌, ◌+◌, ◌-◌, ◌^◌, drop}
use Rattle.std.specs.Prelude.{min}
use Rattle.std.specs.List.{sum_by}
use Rattle.pm_call.specs.Summing.{dropped_by, dropped_in}
use Rattle.pm_call.proofs.summing.dropped_in.Given as goal

abbrev pub invariant-loop-member : goal.invariant-loop-member
invariant-loop-member l = record {
  counted : min (l.dropped + sum_by dropped_by (drop l.member-index l.members)) (2 ^ 64 - 1) ≡ dropped_in l.members;
  small : l.dropped ≤ 2 ^ 64 - 1;
}
