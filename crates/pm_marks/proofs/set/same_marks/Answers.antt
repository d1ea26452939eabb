use Rattle.pm_marks.proofs.Laws.{same_marks-differ}
use Rattle.pm_marks.proofs.set.same_marks.Goals as goal

pub returns-then-left-right : goal.returns-then-left-right
returns-then-left-right g c = same_marks-differ g.A.Same.equal g.met.A.Same.is_equality c.args.left.now c.args.right.now c.if-left-right.true
