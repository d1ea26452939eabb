use Rattle.std.proofs.Common.{◌≡◌, ◌++◌, [], take}
use Rattle.pm_apply.specs.Walks.{given_back}
use Rattle.pm_apply.proofs.runs.remove_all.Given as goal

abbrev pub invariant-loop-mark : goal.invariant-loop-mark
invariant-loop-mark l = l.steps.items ≡ l.initial.steps.items ++ given_back l.target [] (take l.mark-index l.marks)
