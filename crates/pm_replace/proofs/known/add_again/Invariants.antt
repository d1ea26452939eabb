use Rattle.std.proofs.Common.{◌≡◌, drop, []}
use Rattle.pm_attrs.specs.Attrs.{same_attrs}
use Rattle.pm_marks.specs.Sets.{all_added}
use Rattle.pm_replace.proofs.known.add_again.Given as goal

abbrev pub invariant-loop-mark : goal.invariant-loop-mark
invariant-loop-mark l = all_added same_attrs l.rules l.set (drop l.mark-index l.mark-items) ≡ all_added same_attrs l.rules [] l.mark-items
