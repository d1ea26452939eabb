use Rattle.std.specs.Prelude.{◌≡◌, IfOk, Ok}
use Rattle.std.proofs.Common.{subst, sym}
use Rattle.pm_tokens.specs.Tokens.{Doc}
use Rattle.pm_tokens.specs.Faults.{Valid}
use Rattle.pm_meaning.specs.Outcomes.{outcome}
use Rattle.pm_meaning.specs.Inverses.{inverse}
use Rattle.pm_schema.specs.Documents.{documents_of}
use Rattle.pm_step.specs.Steps.{step_of}
use Rattle.pm_node.proofs.DocLaws.{same-doc}
use Rattle.pm_apply.proofs.inverse.inverse.Goals as goal

pub inverse_in-requires : goal.inverse_in-requires
inverse_in-requires c =
    let s = documents_of c.args.schema.now.spec in
    let is = sym (same-doc c.top.result.now _ _ c.top.ensures c.content.ensures) in
    record {
      good = subst (Valid s) is c.requires.good;
      applies = subst (λ d. (next : Doc) × (outcome s (step_of c.args.step.now) d ≡ Ok next)) is c.requires.applies;
    }

pub returns : goal.returns
returns c =
    subst (λ d. IfOk c.inverse_in.result (λ v. v.items ≡ inverse (documents_of c.args.schema.now.spec) (step_of c.args.step.now) d))
    (same-doc c.top.result.now _ _ c.top.ensures c.content.ensures) c.inverse_in.ensures
