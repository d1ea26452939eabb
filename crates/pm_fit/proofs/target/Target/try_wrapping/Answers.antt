use Rattle.std.specs.Prelude.{Some, None, option_map}
use Rattle.std.proofs.Common.{◌≡◌, List, ℕ, refl, ap, sym, ◌∙◌}
use Rattle.std.proofs.lemmas.Result.{IfOk-weaker}
use Rattle.pm_schema.specs.Documents.{documents_of}
use Rattle.pm_slice.specs.Sides.{sides}
use Rattle.pm_fit.specs.Fitteds.{step_in}
use Rattle.pm_fit.specs.Candidates.{in_wrapping}
use Rattle.pm_fit.specs.Fits.{wrapped, step_with}
use Rattle.pm_fit.specs.Firsts.{IsFirst}
use Rattle.pm_fit.proofs.OptionLaws.{is-none}
use Rattle.pm_fit.proofs.NodeLaws.{first-none, first-some}
use Rattle.pm_fit.proofs.StateLaws.{wrapping-at}
use Rattle.pm_fit.proofs.FitLaws.{wrap-nothing, wrap-one}
use Rattle.pm_fit.proofs.target.Target.try_wrapping.Goals as goal

pub returns-in_default-clause-step : goal.returns-in_default-clause-step
returns-in_default-clause-step c = λ a b depth.
    let r = c.args.self.now in
    let text = (documents_of r.schema.now.spec).text in
    wrap-nothing r.schema.now r.doc.now r.from r.to depth (sides c.args.content.now a b) (first-none text c.size.ensures.whole (sym c.first_type.ensures ∙ is-none c.first_type.result c.in_default.not-Some))

pub returns-in-Some-2-clause-step : goal.returns-in-Some-2-clause-step
returns-in-Some-2-clause-step c = λ a b depth.
    let r = c.args.self.now in
    let s = r.schema.now in
    let text = (documents_of s.spec).text in
    let ts = c.args.content.now in
    let first = sym c.in-Some.is ∙ c.first_type.ensures in
    let kinds = c.in-Some-2.kinds in
    let w = sym c.in-Some-2.is ∙ c.in_ok-kinds.ensures in
    let at = wrapping-at s r.doc.now r.from ts c.args.parent c.args.before.now c.in-Some.to (Some kinds) first c.requires.within c.requires.behind w in
    let slice = c.as_slice.result.now in
    IfOk-weaker c.try_nodes.result (λ o. option_map step_in o ≡ step_with (documents_of s.spec) r.doc.now r.from r.to (wrapped s.spec (Some slice) ts)) (λ o. IsFirst s r.doc.now r.from r.to (in_wrapping depth depth (sides ts a b)) (option_map step_in o))
    (λ o h. wrap-one s r.doc.now r.from r.to depth (sides ts a b) (Some kinds) (option_map step_in o) (first-some text ts c.in-Some.to first) at (h ∙ ap (λ (ks : List ℕ). step_with (documents_of s.spec) r.doc.now r.from r.to (wrapped s.spec (Some ks) ts)) c.as_slice.ensures)) c.try_nodes.ensures.step

pub returns-in-None-clause-step : goal.returns-in-None-clause-step
returns-in-None-clause-step c = λ a b depth.
    let r = c.args.self.now in
    let s = r.schema.now in
    let text = (documents_of s.spec).text in
    let ts = c.args.content.now in
    let first = sym c.in-Some.is ∙ c.first_type.ensures in
    let w = sym c.in-None.is ∙ c.in_ok-kinds.ensures in
    let at = wrapping-at s r.doc.now r.from ts c.args.parent c.args.before.now c.in-Some.to None first c.requires.within c.requires.behind w in
    wrap-one s r.doc.now r.from r.to depth (sides ts a b) None None (first-some text ts c.in-Some.to first) at refl
