use Rattle.std.proofs.Common.{◌≡◌, true, take}
use Rattle.std.specs.List.{list_all}
use Rattle.pm_schema.specs.Defaults.{have_kinds}
use Rattle.pm_schema.proofs.build.mark_defaults.Given as goal

abbrev pub invariant-loop-mark : goal.invariant-loop-mark
invariant-loop-mark l = list_all (λ x. have_kinds x.attrs) (take l.mark-index l.marks) ≡ true
