use Rattle.std.specs.Prelude.{◌+◌, ◌-◌, None, option_map}
use Rattle.std.proofs.Common.{◌≡◌, sym, subst, List}
use Rattle.std.proofs.lemmas.Result.{IfOk-weaker}
use Rattle.pm_schema.specs.Documents.{documents_of}
use Rattle.pm_fit.specs.Fitteds.{step_in}
use Rattle.pm_fit.specs.Candidates.{Candidate, Sided}
use Rattle.pm_fit.specs.Fits.{sided, step_with}
use Rattle.pm_fit.specs.Firsts.{IsFirst}
use Rattle.pm_fit.proofs.FirstLaws.{none, one}
use Rattle.pm_fit.proofs.StepLaws.{side-on, side-off}
use Rattle.pm_fit.proofs.target.Target.try_side.Goals as goal

pub returns-then-end-left-clause-step : goal.returns-then-end-left-clause-step
returns-then-end-left-clause-step c =
    let t = c.args.self.now in
    subst (λ (cs : List Candidate). IsFirst t.schema.now t.doc.now t.from t.to cs None) (sym (side-off c.args.left c.args.right c.args.content.now c.args.open_start c.if-end-left.true)) (none t.schema.now t.doc.now t.from t.to)

pub returns-clause-step : goal.returns-clause-step
returns-clause-step c =
    let t = c.args.self.now in
    let a = c.args.open_start in
    let b = c.args.right + a - c.args.left in
    let ts = c.args.content.now in
    IfOk-weaker c.try_sides.result (λ o. option_map step_in o ≡ step_with (documents_of t.schema.now.spec) t.doc.now t.from t.to (sided ts a b)) (λ o. IsFirst t.schema.now t.doc.now t.from t.to _ (option_map step_in o))
    (λ o h. subst (λ (cs : List Candidate). IsFirst t.schema.now t.doc.now t.from t.to cs (option_map step_in o)) (sym (side-on c.args.left c.args.right ts a c.if-end-left.false)) (one t.schema.now t.doc.now t.from t.to (Sided ts a b) (option_map step_in o) h)) c.try_sides.ensures.step
