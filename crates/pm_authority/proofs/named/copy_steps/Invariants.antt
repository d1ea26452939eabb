use Rattle.std.proofs.Common.{◌≡◌, take}
use Rattle.pm_authority.proofs.named.copy_steps.Given as goal

abbrev pub invariant-loop-step : goal.invariant-loop-step
invariant-loop-step g l = l.copies ≡ take l.step-index l.steps
