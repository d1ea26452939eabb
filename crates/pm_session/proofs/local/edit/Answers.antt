use Rattle.std.proofs.Common.{subst}
use Rattle.pm_session.specs.Makes.{GivesSteps}
use Rattle.pm_session.proofs.Makings.{some-steps}
use Rattle.pm_session.proofs.local.edit.Goals as goal

-- the steps that the maker gave
pub edit_by-requires-clause-some : goal.edit_by-requires-clause-some
edit_by-requires-clause-some g c =
    let makes = g.K.Maker.makes c.args.maker.now c.args.rules.now c.doc.result.now c.args.op.now in
    some-steps makes c.in-Ok.made.steps.items (subst (λ r. GivesSteps makes r) c.in-Ok.is c.steps.ensures.steps)
    (g.met.K.Maker.some c.args.maker.now c.args.rules.now c.doc.result.now c.args.op.now)
