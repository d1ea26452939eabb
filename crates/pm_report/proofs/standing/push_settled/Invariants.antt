use Rattle.std.proofs.Common.{◌≡◌, ◌++◌, drop, string_bytes}
use Rattle.pm_report.specs.Report.{settled_lines}
use Rattle.pm_report.proofs.standing.push_settled.Given as goal

abbrev pub invariant-loop-i : goal.invariant-loop-i
invariant-loop-i l = string_bytes l.text ++ settled_lines l.entries l.i (drop l.i l.members) ≡ string_bytes l.fn.text ++ settled_lines l.entries 0 l.members
