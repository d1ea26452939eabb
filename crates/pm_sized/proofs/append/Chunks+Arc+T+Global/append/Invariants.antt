use Rattle.std.proofs.Common.{◌≡◌, ◌++◌, ◌≤◌, ◌-◌}
use Rattle.pm_sized.specs.Pairs.{IsLaid}
use Rattle.pm_sized.specs.Parts.{part, values_of}
use Rattle.pm_sized.proofs.append.Chunks+Arc+T+Global.append.Given as goal

abbrev pub invariant-loop-i : goal.invariant-loop-i
invariant-loop-i g l = record {
  laid : IsLaid l.self;
  before : l.from ≤ l.i;
  within : l.i ≤ l.to;
  values : values_of l.self ≡ values_of l.fn.self ++ part l.from l.i (values_of l.source);
}

abbrev pub decreases-loop-i : goal.decreases-loop-i
decreases-loop-i g l = l.to - l.i
