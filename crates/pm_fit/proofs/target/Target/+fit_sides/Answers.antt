use Rattle.std.specs.Prelude.{Option, Some, option_map}
use Rattle.std.proofs.Common.{refl, ap, subst}
use Rattle.pm_meaning.specs.Steps.{Step}
use Rattle.pm_fit.specs.Fitteds.{step_in}
use Rattle.pm_fit.specs.Candidates.{with_side}
use Rattle.pm_fit.specs.Firsts.{IsFirst}
use Rattle.pm_fit.proofs.OptionLaws.{not-found}
use Rattle.pm_fit.proofs.PeelLaws.{fall-found, fall-on}
use Rattle.pm_fit.proofs.target.Target.+fit_sides.Goals as goal

pub returns-in-Some-clause-step : goal.returns-in-Some-clause-step
returns-in-Some-clause-step t c =
    let r = c.args.self.now in
    let f = with_side c.args.left c.args.right c.args.content.now in
    fall-found r.schema.now r.doc.now r.from r.to f c.args.open_start (Some (step_in c.in-Some.fitted))
    (subst (λ (o : Option Step). IsFirst r.schema.now r.doc.now r.from r.to (f c.args.open_start) o) (ap (option_map step_in) c.in-Some.is) c.in_ok-fitted.ensures.step) refl

pub returns-clause-step : goal.returns-clause-step
returns-clause-step t c =
    let r = c.args.self.now in
    fall-on r.schema.now r.doc.now r.from r.to (with_side c.args.left c.args.right c.args.content.now) c.fit_sides.result (option_map step_in) c.args.open_start (option_map step_in c.in_ok-fitted.field-0) c.if-open_start-eq0.false c.in_ok-fitted.ensures.step (not-found step_in c.in_ok-fitted.field-0 c.in_default.not-Some) c.fit_sides.ensures.step
