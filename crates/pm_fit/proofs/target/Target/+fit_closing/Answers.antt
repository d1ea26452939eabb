use Rattle.std.specs.Prelude.{IfOk, Some, Option, option_map}
use Rattle.std.proofs.Common.{◌+◌, ◌-◌, ◌∷◌, [], List, ℕ, refl, ap, sym, subst}
use Rattle.pm_meaning.specs.Steps.{Step}
use Rattle.pm_fit.specs.Fitteds.{step_in}
use Rattle.pm_fit.specs.Candidates.{Candidate, falling, closing_at}
use Rattle.pm_fit.specs.Firsts.{IsFirst}
use Rattle.pm_fit.proofs.OptionLaws.{not-found}
use Rattle.pm_fit.proofs.PeelLaws.{fall-found, fall-on, map-flat}
use Rattle.pm_fit.proofs.target.Target.+fit_closing.Goals as goal

pub returns-in-Some-clause-step : goal.returns-in-Some-clause-step
returns-in-Some-clause-step t c =
    let r = c.args.self.now in
    let f = λ (i : ℕ). closing_at r.doc.now r.from r.to (c.args.least + i) in
    let h = subst (λ (o : Option Step). IsFirst r.schema.now r.doc.now r.from r.to (f c.args.more ∷ []) o) (ap (option_map step_in) c.in-Some.is) c.in_ok-fitted.ensures.step in
    subst (λ (cs : List Candidate). IsFirst r.schema.now r.doc.now r.from r.to cs (Some (step_in c.in-Some.fitted))) (sym (map-flat f (falling c.args.more)))
    (fall-found r.schema.now r.doc.now r.from r.to (λ i. f i ∷ []) c.args.more (Some (step_in c.in-Some.fitted)) h refl)

pub returns-clause-step : goal.returns-clause-step
returns-clause-step t c =
    let r = c.args.self.now in
    let f = λ (i : ℕ). closing_at r.doc.now r.from r.to (c.args.least + i) in
    let below = subst (λ (cs : List Candidate). IfOk c.fit_closing.result (λ o. IsFirst r.schema.now r.doc.now r.from r.to cs (option_map step_in o))) (map-flat f (falling (c.args.more - 1))) c.fit_closing.ensures.step in
    subst (λ (cs : List Candidate). IfOk c.fit_closing.result (λ o. IsFirst r.schema.now r.doc.now r.from r.to cs (option_map step_in o))) (sym (map-flat f (falling c.args.more)))
    (fall-on r.schema.now r.doc.now r.from r.to (λ i. f i ∷ []) c.fit_closing.result (option_map step_in) c.args.more (option_map step_in c.in_ok-fitted.field-0) c.if-more-eq0.false c.in_ok-fitted.ensures.step (not-found step_in c.in_ok-fitted.field-0 c.in_default.not-Some) below)
