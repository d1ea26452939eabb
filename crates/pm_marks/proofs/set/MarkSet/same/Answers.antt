use Rattle.std.proofs.Common.{◌≡◌, ◌∙◌, sym}
use Rattle.pm_marks.specs.Sets.{same_marks}
use Rattle.pm_marks.proofs.Laws.{same_marks-decides}
use Rattle.pm_marks.proofs.set.MarkSet.same.Goals as goal

pub returns-clause-equality : goal.returns-clause-equality
returns-clause-equality g c =
    let tells : c.same_marks.result ≡ same_marks g.A.Same.equal c.args.self.now c.args.other.now = rw (← c.marks.ensures, ← c.marks-2.ensures) c.same_marks.ensures in
    let law = same_marks-decides g.A.Same.equal g.met.A.Same.is_equality c.args.self.now c.args.other.now in
    (λ t. law.0 (sym tells ∙ t), λ e. tells ∙ law.1 e)
