use Rattle.std.proofs.Common.{◌≡◌, take}
use Rattle.pm_sized.specs.Pairs.{IsFew}
use Rattle.pm_sized.specs.Parts.{values_in}
use Rattle.pm_sized.proofs.few.Few+Arc+T+Global.copy.Given as goal

abbrev pub invariant-loop-entry : goal.invariant-loop-entry
invariant-loop-entry g l = record {
  few : IsFew l.made;
  values : values_in l.made.items.items ≡ values_in (take l.entry-index l.self.items.items);
}
