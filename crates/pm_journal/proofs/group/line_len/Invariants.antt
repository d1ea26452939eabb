use Rattle.std.proofs.Common.{take}
use Rattle.pm_journal.specs.Lines.{IsLine}
use Rattle.pm_journal.proofs.group.line_len.Given as goal

abbrev pub invariant-loop-at : goal.invariant-loop-at
invariant-loop-at l = IsLine (take l.at l.bytes)
