use Rattle.std.specs.Prelude.{Some, option_map}
use Rattle.std.proofs.Common.{◌≡◌, ◌<◌, length, ap, sym, ◌∙◌, arith}
use Rattle.std.proofs.lemmas.Result.{IfOk-weaker}
use Rattle.pm_tokens.specs.Schemas.{max_size}
use Rattle.pm_schema.specs.Documents.{documents_of}
use Rattle.pm_fit.specs.Fitteds.{step_in}
use Rattle.pm_fit.specs.Wrappings.{in_nodes}
use Rattle.pm_fit.specs.Fits.{sided, wrapped, step_with}
use Rattle.pm_fit.proofs.HollowLaws.{length-in_nodes}
use Rattle.pm_fit.proofs.LargeLaws.{large-none, deep-none}
use Rattle.pm_fit.proofs.StepLaws.{wrapped-some}
use Rattle.pm_fit.proofs.target.Target.try_nodes.Goals as goal

pub returns-then-count-gt-MAX_DEPTH-clause-step : goal.returns-then-count-gt-MAX_DEPTH-clause-step
returns-then-count-gt-MAX_DEPTH-clause-step c =
    let r = c.args.self.now in
    let s = r.schema.now.spec in
    let deep : 48 < length c.args.kinds.now = omega (arith, c.if-count-gt-MAX_DEPTH.true) in
    deep-none s (documents_of s) r.doc.now c.requires r.from r.to c.args.kinds.now c.args.content.now deep
    ∙ ap (step_with (documents_of s) r.doc.now r.from r.to) (sym (wrapped-some s c.args.kinds.now c.args.content.now c.if-count-eq0.false))

pub returns-then-size-count-clause-step : goal.returns-then-size-count-clause-step
returns-then-size-count-clause-step c =
    let r = c.args.self.now in
    let s = r.schema.now.spec in
    let ts = in_nodes s c.args.kinds.now c.args.content.now in
    let large : max_size (documents_of s) < length ts = omega (arith, length-in_nodes s c.args.kinds.now c.args.content.now, c.size-size.ensures.size, c.if-size-count.true, c.max_size.ensures.size) in
    large-none (documents_of s) r.doc.now c.requires r.from r.to ts large ∙ ap (step_with (documents_of s) r.doc.now r.from r.to) (sym (wrapped-some s c.args.kinds.now c.args.content.now c.if-count-eq0.false))

pub returns-clause-step : goal.returns-clause-step
returns-clause-step c =
    let r = c.args.self.now in
    let s = r.schema.now.spec in
    let ks = c.args.kinds.now in
    let made = c.in_ok-content-2.content in
    let is = c.in_ok-content-2.ensures ∙ ap (in_nodes s ks) c.in_ok-content.ensures in
    IfOk-weaker c.try_sides.result (λ o. option_map step_in o ≡ step_with (documents_of s) r.doc.now r.from r.to (sided made 0 0)) (λ o. option_map step_in o ≡ step_with (documents_of s) r.doc.now r.from r.to (wrapped s (Some ks) c.args.content.now))
    (λ o h. h ∙ ap (step_with (documents_of s) r.doc.now r.from r.to) (ap (λ z. sided z 0 0) is ∙ sym (wrapped-some s ks c.args.content.now c.if-count-eq0.false))) c.try_sides.ensures.step
