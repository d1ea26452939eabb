use Rattle.std.proofs.Common.{◌≡◌, take}
use Rattle.pm_sized.specs.Pairs.{IsMany}
use Rattle.pm_sized.specs.Parts.{values_in, many_values}
use Rattle.pm_sized.proofs.few.Few+Arc+T+Global.widened.Given as goal

abbrev pub invariant-loop-entry : goal.invariant-loop-entry
invariant-loop-entry g l = record {
  laid : IsMany l.made;
  values : many_values l.made ≡ values_in (take l.entry-index l.self.items.items);
}
