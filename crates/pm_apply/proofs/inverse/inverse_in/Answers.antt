use Rattle.std.proofs.Common.{◌≡◌, subst}
use Rattle.std.specs.Prelude.{Ok}
use Rattle.pm_schema.specs.Documents.{documents_of}
use Rattle.pm_node.specs.Documents.{doc_with}
use Rattle.pm_meaning.specs.Outcomes.{outcome}
use Rattle.pm_step.specs.declared.step.Step.{Step}
use Rattle.pm_step.specs.Steps.{step_of}
use Rattle.pm_apply.specs.Around.{ends_of}
use Rattle.pm_apply.proofs.InverseLaws.{around-placed}
use Rattle.pm_apply.proofs.inverse.inverse_in.Goals as goal

pub around_back-requires : goal.around_back-requires
around_back-requires c =
    let s = documents_of c.args.schema.now.spec in
    let d = doc_with c.args.top.now c.args.content.now in
    let i = c.in-ReplaceAround in
    around-placed s (ends_of i.step) i.step.slice i.step.structure d c.requires.applies.0
    (subst (λ (z : Step). outcome s (step_of z) d ≡ Ok c.requires.applies.0) i.is c.requires.applies.1)
