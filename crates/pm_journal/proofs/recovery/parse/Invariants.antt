use Rattle.std.proofs.Common.{◌≡◌, ◌++◌, length, map}
use Rattle.std.specs.List.{AllByRecursion}
use Rattle.pm_journal.specs.Lines.{records, IsLine}
use Rattle.pm_journal.proofs.recovery.parse.Given as goal

abbrev pub invariant-loop-line : goal.invariant-loop-line
invariant-loop-line l = record {
  read : l.bytes ≡ records (map (λ line. line.items) l.lines.items) ++ l.rest;
  are : AllByRecursion IsLine (map (λ line. line.items) l.lines.items);
}

abbrev pub decreases-loop-line : goal.decreases-loop-line
decreases-loop-line l = length l.rest
