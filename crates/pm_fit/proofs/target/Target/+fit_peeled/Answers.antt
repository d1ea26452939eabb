use Rattle.std.specs.Prelude.{◌-◌, Option, Some, option_map, IfOk, flat_map}
use Rattle.std.proofs.Common.{ℕ, refl, ap, subst}
use Rattle.pm_meaning.specs.Steps.{Step}
use Rattle.pm_fit.specs.Fitteds.{step_in}
use Rattle.pm_slice.specs.Sides.{sides}
use Rattle.pm_fit.specs.Candidates.{falling, peelings, with_side, with_sides}
use Rattle.pm_fit.specs.Firsts.{IsFirst}
use Rattle.pm_fit.proofs.OptionLaws.{not-found}
use Rattle.pm_fit.proofs.PeelLaws.{peel-found, peel-on}
use Rattle.pm_fit.proofs.target.Target.+fit_peeled.Goals as goal

pub returns-in-Some-clause-step : goal.returns-in-Some-clause-step
returns-in-Some-clause-step t c = λ most end l.
    let r = c.args.self.now in
    let ts = c.args.content.now in
    let h = subst (λ (i : ℕ). IsFirst r.schema.now r.doc.now r.from r.to (flat_map (with_side c.args.left c.args.right ts) (falling i)) (option_map step_in c.in_ok-fitted.field-0)) c.min-most.ensures c.in_ok-fitted.ensures.step in
    peel-found r.schema.now r.doc.now r.from r.to (with_sides c.args.left c.args.right) most (sides ts c.args.open_start end) (Some (step_in c.in-Some.fitted))
    (subst (λ (o : Option Step). IsFirst r.schema.now r.doc.now r.from r.to (with_sides c.args.left c.args.right (sides ts c.args.open_start end)) o) (ap (option_map step_in) c.in-Some.is) h) refl

pub returns-in-Some-peel-clause-step : goal.returns-in-Some-peel-clause-step
returns-in-Some-peel-clause-step t c = λ most end l.
    let r = c.args.self.now in
    let ts = c.args.content.now in
    let inner = c.in-Some-peel.inner.now in
    let h = subst (λ (i : ℕ). IsFirst r.schema.now r.doc.now r.from r.to (flat_map (with_side c.args.left c.args.right ts) (falling i)) (option_map step_in c.in_ok-fitted.field-0)) c.min-most.ensures c.in_ok-fitted.ensures.step in
    peel-on r.schema.now r.doc.now r.from r.to (with_sides c.args.left c.args.right) c.fit_peeled.result (option_map step_in) most (sides ts c.args.open_start end) inner (option_map step_in c.in_ok-fitted.field-0) l c.in-Some-peel.ensures.can c.in-Some-peel.ensures.inner h (not-found step_in c.in_ok-fitted.field-0 c.in_default.not-Some)
    (λ k m. subst (λ (i : ℕ). IfOk c.fit_peeled.result (λ o. IsFirst r.schema.now r.doc.now r.from r.to (flat_map (with_sides c.args.left c.args.right) (peelings k (sides inner i (end - 1)))) (option_map step_in o))) c.saturating_sub.ensures (c.fit_peeled.ensures.step k (end - 1) m))
