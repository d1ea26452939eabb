use Rattle.std.specs.Prelude.{◌-◌, Option, Some, option_map}
use Rattle.std.proofs.Common.{refl, ap, subst}
use Rattle.pm_meaning.specs.Steps.{Step}
use Rattle.pm_fit.specs.Fitteds.{step_in}
use Rattle.pm_slice.specs.Sides.{sides}
use Rattle.pm_fit.specs.Candidates.{in_wrapping}
use Rattle.pm_fit.specs.Firsts.{IsFirst}
use Rattle.pm_fit.proofs.OptionLaws.{not-found}
use Rattle.pm_fit.proofs.PeelLaws.{peel-found, peel-end, peel-on}
use Rattle.pm_fit.proofs.target.Target.+fit_wrapped.Goals as goal

pub returns-in-Some-clause-step : goal.returns-in-Some-clause-step
returns-in-Some-clause-step t c = λ most a b depth l.
    let r = c.args.self.now in
    let sl = sides c.args.content.now a b in
    peel-found r.schema.now r.doc.now r.from r.to (in_wrapping depth depth) most sl (Some (step_in c.in-Some.fitted))
    (subst (λ (o : Option Step). IsFirst r.schema.now r.doc.now r.from r.to (in_wrapping depth depth sl) o) (ap (option_map step_in) c.in-Some.is) (c.in_ok-fitted.ensures.step a b depth)) refl

pub returns-in-Some-peel-clause-step : goal.returns-in-Some-peel-clause-step
returns-in-Some-peel-clause-step t c = λ most a b depth l.
    let r = c.args.self.now in
    peel-on r.schema.now r.doc.now r.from r.to (in_wrapping depth depth) c.fit_wrapped.result (option_map step_in) most (sides c.args.content.now a b) c.in-Some-peel.inner.now (option_map step_in c.in_ok-fitted.field-0) l c.in-Some-peel.ensures.can c.in-Some-peel.ensures.inner (c.in_ok-fitted.ensures.step a b depth) (not-found step_in c.in_ok-fitted.field-0 c.in_default.not-Some)
    (λ k m. c.fit_wrapped.ensures.step k (a - 1) (b - 1) depth m)

pub returns-in-None-clause-step : goal.returns-in-None-clause-step
returns-in-None-clause-step t c = λ most a b depth l.
    let r = c.args.self.now in
    peel-end r.schema.now r.doc.now r.from r.to (in_wrapping depth depth) most (sides c.args.content.now a b) (option_map step_in c.in_ok-fitted.field-0) (c.in-None.ensures.cannot refl) (c.in_ok-fitted.ensures.step a b depth) (not-found step_in c.in_ok-fitted.field-0 c.in_default.not-Some)
