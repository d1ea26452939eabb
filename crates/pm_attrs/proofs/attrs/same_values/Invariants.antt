use Rattle.std.proofs.Common.{◌≡◌, drop}
use Rattle.pm_value.specs.Plain.{plains_of}
use Rattle.pm_value.specs.Views.{plains}
use Rattle.pm_value.specs.Equal.{same_values}
use Rattle.pm_attrs.proofs.attrs.same_values.Given as goal

abbrev pub invariant-loop-i : goal.invariant-loop-i
invariant-loop-i l = same_values (plains_of (plains (drop l.i l.left))) (plains_of (plains (drop l.i l.right))) ≡ same_values (plains_of (plains l.left)) (plains_of (plains l.right))
