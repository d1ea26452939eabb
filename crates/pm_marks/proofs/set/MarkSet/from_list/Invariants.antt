use Rattle.std.proofs.Common.{◌≡◌, drop, []}
use Rattle.pm_marks.specs.Sets.{all_added}
use Rattle.pm_marks.proofs.set.MarkSet.from_list.Given as goal

abbrev pub invariant-loop-mark : goal.invariant-loop-mark
invariant-loop-mark g l = all_added g.A.Same.equal l.rules l.set (drop l.mark-index l.mark-items) ≡ all_added g.A.Same.equal l.rules [] l.mark-items
