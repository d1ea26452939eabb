use Rattle.std.proofs.Common.{◌≡◌, ◌++◌, ◌+◌, drop, string_bytes}
use Rattle.pm_report.specs.Report.{entry_lines}
use Rattle.pm_report.proofs.whole.push_entries.Given as goal

abbrev pub invariant-loop-i : goal.invariant-loop-i
invariant-loop-i l = string_bytes l.text ++ entry_lines l.schema.spec l.entries (l.i + 1) (drop l.i l.log) ≡ string_bytes l.fn.text ++ entry_lines l.schema.spec l.entries 1 l.log
