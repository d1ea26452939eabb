use Rattle.std.proofs.Common.{◌≡◌, drop}
use Rattle.pm_archive.specs.Same.{same_entry}
use Rattle.std.specs.Cmp.Lexicographic.{pointwise}
use Rattle.pm_archive.proofs.same.same_entries.Given as goal

abbrev pub invariant-loop-i : goal.invariant-loop-i
invariant-loop-i l =
    pointwise (same_entry l.schema.spec l.its.spec) (drop l.i l.entries) (drop l.i l.others)
    ≡ pointwise (same_entry l.schema.spec l.its.spec) l.entries l.others
