use Rattle.std.proofs.Common.{◌≡◌, ◌≤◌, ◌-◌, length, take}
use Rattle.pm_history.specs.Laters.{items_of}
use Rattle.pm_history.specs.Pairs.{paired}
use Rattle.pm_history.proofs.later.Later.entries.Given as goal

abbrev pub invariant-loop-i : goal.invariant-loop-i
invariant-loop-i g l = record {
  within : l.i ≤ length (items_of l.self);
  same : l.maps.items ≡ take l.i (paired (items_of l.self));
}

abbrev pub decreases-loop-i : goal.decreases-loop-i
decreases-loop-i g l = length (items_of l.self) - l.i
