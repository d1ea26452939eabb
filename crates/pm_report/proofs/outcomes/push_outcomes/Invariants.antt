use Rattle.std.proofs.Common.{◌≡◌, ◌++◌, drop, string_bytes}
use Rattle.pm_report.specs.Outcomes.{outcome_lines}
use Rattle.pm_report.proofs.outcomes.push_outcomes.Given as goal

abbrev pub invariant-loop-outcome : goal.invariant-loop-outcome
invariant-loop-outcome l = string_bytes l.text ++ outcome_lines (drop l.outcome-index l.outcomes) ≡ string_bytes l.fn.text ++ outcome_lines l.outcomes
