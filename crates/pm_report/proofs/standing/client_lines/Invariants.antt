use Rattle.std.proofs.Common.{◌≡◌, ◌++◌, drop, string_bytes}
use Rattle.pm_report.specs.Report.{client_lines}
use Rattle.pm_report.proofs.standing.client_lines.Given as goal

abbrev pub invariant-loop-i : goal.invariant-loop-i
invariant-loop-i l = string_bytes l.text ++ client_lines l.schema.spec l.entries l.i (drop l.i l.members) ≡ client_lines l.schema.spec l.entries 0 l.members
