use Rattle.std.proofs.Common.{◌≡◌, drop}
use Rattle.std.specs.Prelude.{fold}
use Rattle.pm_talk.specs.Work.{up_to, work, works}
use Rattle.pm_talk.proofs.work.works.Given as goal

abbrev pub invariant-loop-step : goal.invariant-loop-step
invariant-loop-step l = fold (λ sum step. up_to sum (work step)) l.sum (drop l.step-index l.steps) ≡ works l.steps
