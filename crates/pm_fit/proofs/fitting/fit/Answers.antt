use Rattle.std.specs.Prelude.{◌+◌, ◌-◌, min, map, option_map}
use Rattle.std.proofs.Common.{◌≡◌, ◌≤◌, length, ap, sym, ◌∙◌, arith}
use Rattle.std.proofs.lemmas.Result.{IfOk-weaker}
use Rattle.pm_schema.specs.Documents.{documents_of}
use Rattle.pm_fit.specs.Fitteds.{step_in}
use Rattle.pm_fit.specs.Candidates.{falling, closing_at}
use Rattle.pm_fit.specs.Fits.{fit_step}
use Rattle.pm_fit.specs.Firsts.{IsFirst}
use Rattle.pm_fit.proofs.OptionLaws.{not-found}
use Rattle.pm_fit.proofs.PlaceLaws.{shared-least, depth-is, shared-as}
use Rattle.pm_fit.proofs.FitLaws.{as-peeled, as-wrapped, as-closers, fits-peeled, fits-wrapped, fits-nothing, fits-closed}
use Rattle.pm_fit.proofs.fitting.fit.Goals as goal

pub returns-in-Some-clause-step : goal.returns-in-Some-clause-step
returns-in-Some-clause-step c =
    let s = c.args.schema.now in
    let d = c.args.doc.now in
    let from = c.args.from in
    let to = c.args.to in
    let sl = c.args.slice.now in
    let x = c.in_ok-left.left in
    let y = c.in_ok-right.right in
    let m = depth-is x.doc d x.pos from c.depth-m.result c.in_ok-left.ensures.document c.in_ok-left.ensures.position c.depth-m.ensures in
    let n = depth-is y.doc d y.pos to c.depth-n.result c.in_ok-right.ensures.document c.in_ok-right.ensures.position c.depth-n.ensures in
    let ts = c.content-content.result.now in
    let same = c.content-content.ensures in
    let most : length ts ≤ length sl.content = omega (arith, ap length same) in
    let o = option_map step_in c.in_ok-fitted.field-0 in
    let f = as-peeled s d from to sl c.depth-m.result c.depth-n.result c.open_start-start.result ts o m n same c.open_start-start.ensures.side (c.in_ok-fitted.ensures.step (length sl.content) sl.open_end most) in
    fits-peeled s d from to sl o (step_in c.in-Some.fitted) f (ap (option_map step_in) c.in-Some.is)

pub returns-in-Some-2-clause-step : goal.returns-in-Some-2-clause-step
returns-in-Some-2-clause-step c =
    let s = c.args.schema.now in
    let d = c.args.doc.now in
    let from = c.args.from in
    let to = c.args.to in
    let sl = c.args.slice.now in
    let x = c.in_ok-left.left in
    let y = c.in_ok-right.right in
    let m = depth-is x.doc d x.pos from c.depth-m.result c.in_ok-left.ensures.document c.in_ok-left.ensures.position c.depth-m.ensures in
    let n = depth-is y.doc d y.pos to c.depth-n.result c.in_ok-right.ensures.document c.in_ok-right.ensures.position c.depth-n.ensures in
    let ts = c.content-content.result.now in
    let same = c.content-content.ensures in
    let most : length ts ≤ length sl.content = omega (arith, ap length same) in
    let o = option_map step_in c.in_ok-fitted.field-0 in
    let f = as-peeled s d from to sl c.depth-m.result c.depth-n.result c.open_start-start.result ts o m n same c.open_start-start.ensures.side (c.in_ok-fitted.ensures.step (length sl.content) sl.open_end most) in
    let no = not-found step_in c.in_ok-fitted.field-0 c.in_default.not-Some in
    let p = option_map step_in c.in_ok-fitted-2.field-0 in
    let g = as-wrapped s d from to sl ts p same (c.in_ok-fitted-2.ensures.step (length sl.content) sl.open_start sl.open_end most) in
    fits-wrapped s d from to sl o p (step_in c.in-Some-2.fitted) f no g (ap (option_map step_in) c.in-Some-2.is)

pub returns-then-size-gt0-clause-step : goal.returns-then-size-gt0-clause-step
returns-then-size-gt0-clause-step c =
    let s = c.args.schema.now in
    let d = c.args.doc.now in
    let from = c.args.from in
    let to = c.args.to in
    let sl = c.args.slice.now in
    let x = c.in_ok-left.left in
    let y = c.in_ok-right.right in
    let m = depth-is x.doc d x.pos from c.depth-m.result c.in_ok-left.ensures.document c.in_ok-left.ensures.position c.depth-m.ensures in
    let n = depth-is y.doc d y.pos to c.depth-n.result c.in_ok-right.ensures.document c.in_ok-right.ensures.position c.depth-n.ensures in
    let ts = c.content-content.result.now in
    let same = c.content-content.ensures in
    let most : length ts ≤ length sl.content = omega (arith, ap length same) in
    let o = option_map step_in c.in_ok-fitted.field-0 in
    let f = as-peeled s d from to sl c.depth-m.result c.depth-n.result c.open_start-start.result ts o m n same c.open_start-start.ensures.side (c.in_ok-fitted.ensures.step (length sl.content) sl.open_end most) in
    let no = not-found step_in c.in_ok-fitted.field-0 c.in_default.not-Some in
    let p = option_map step_in c.in_ok-fitted-2.field-0 in
    let g = as-wrapped s d from to sl ts p same (c.in_ok-fitted-2.ensures.step (length sl.content) sl.open_start sl.open_end most) in
    let none = not-found step_in c.in_ok-fitted-2.field-0 c.in_default-2.not-Some in
    fits-nothing s d from to sl o p f no g none (λ e. omega (arith, e, c.size.ensures.size, c.if-size-gt0.true))

pub overflow_sub-min : goal.overflow_sub-min
overflow_sub-min c =
    let s = c.args.schema.now in
    let d = c.args.doc.now in
    let from = c.args.from in
    let to = c.args.to in
    let x = c.in_ok-left.left in
    let y = c.in_ok-right.right in
    let m = depth-is x.doc d x.pos from c.depth-m.result c.in_ok-left.ensures.document c.in_ok-left.ensures.position c.depth-m.ensures in
    let n = depth-is y.doc d y.pos to c.depth-n.result c.in_ok-right.ensures.document c.in_ok-right.ensures.position c.depth-n.ensures in
    let i = shared-as x.doc d x.pos from to c.shared_depth-least.result c.in_ok-left.ensures.document c.in_ok-left.ensures.position c.shared_depth-least.ensures in
    let l = shared-least (documents_of s.spec) d from to c.requires.valid c.requires.order c.requires.within in
    omega (arith, m, n, i, l.0, l.1, c.min.ensures)

pub fit_closing-requires-clause-left_depth : goal.fit_closing-requires-clause-left_depth
fit_closing-requires-clause-left_depth c =
    let s = c.args.schema.now in
    let d = c.args.doc.now in
    let from = c.args.from in
    let to = c.args.to in
    let x = c.in_ok-left.left in
    let y = c.in_ok-right.right in
    let m = depth-is x.doc d x.pos from c.depth-m.result c.in_ok-left.ensures.document c.in_ok-left.ensures.position c.depth-m.ensures in
    let n = depth-is y.doc d y.pos to c.depth-n.result c.in_ok-right.ensures.document c.in_ok-right.ensures.position c.depth-n.ensures in
    let i = shared-as x.doc d x.pos from to c.shared_depth-least.result c.in_ok-left.ensures.document c.in_ok-left.ensures.position c.shared_depth-least.ensures in
    let l = shared-least (documents_of s.spec) d from to c.requires.valid c.requires.order c.requires.within in
    omega (arith, m, n, i, l.0, l.1, c.min.ensures)

pub fit_closing-requires-clause-right_depth : goal.fit_closing-requires-clause-right_depth
fit_closing-requires-clause-right_depth c =
    let s = c.args.schema.now in
    let d = c.args.doc.now in
    let from = c.args.from in
    let to = c.args.to in
    let x = c.in_ok-left.left in
    let y = c.in_ok-right.right in
    let m = depth-is x.doc d x.pos from c.depth-m.result c.in_ok-left.ensures.document c.in_ok-left.ensures.position c.depth-m.ensures in
    let n = depth-is y.doc d y.pos to c.depth-n.result c.in_ok-right.ensures.document c.in_ok-right.ensures.position c.depth-n.ensures in
    let i = shared-as x.doc d x.pos from to c.shared_depth-least.result c.in_ok-left.ensures.document c.in_ok-left.ensures.position c.shared_depth-least.ensures in
    let l = shared-least (documents_of s.spec) d from to c.requires.valid c.requires.order c.requires.within in
    omega (arith, m, n, i, l.0, l.1, c.min.ensures)

pub returns-clause-step : goal.returns-clause-step
returns-clause-step c =
    let s = c.args.schema.now in
    let d = c.args.doc.now in
    let from = c.args.from in
    let to = c.args.to in
    let sl = c.args.slice.now in
    let x = c.in_ok-left.left in
    let y = c.in_ok-right.right in
    let m = depth-is x.doc d x.pos from c.depth-m.result c.in_ok-left.ensures.document c.in_ok-left.ensures.position c.depth-m.ensures in
    let n = depth-is y.doc d y.pos to c.depth-n.result c.in_ok-right.ensures.document c.in_ok-right.ensures.position c.depth-n.ensures in
    let ts = c.content-content.result.now in
    let same = c.content-content.ensures in
    let most : length ts ≤ length sl.content = omega (arith, ap length same) in
    let o = option_map step_in c.in_ok-fitted.field-0 in
    let f = as-peeled s d from to sl c.depth-m.result c.depth-n.result c.open_start-start.result ts o m n same c.open_start-start.ensures.side (c.in_ok-fitted.ensures.step (length sl.content) sl.open_end most) in
    let no = not-found step_in c.in_ok-fitted.field-0 c.in_default.not-Some in
    let p = option_map step_in c.in_ok-fitted-2.field-0 in
    let g = as-wrapped s d from to sl ts p same (c.in_ok-fitted-2.ensures.step (length sl.content) sl.open_start sl.open_end most) in
    let none = not-found step_in c.in_ok-fitted-2.field-0 c.in_default-2.not-Some in
    let i = shared-as x.doc d x.pos from to c.shared_depth-least.result c.in_ok-left.ensures.document c.in_ok-left.ensures.position c.shared_depth-least.ensures in
    let k = c.min.ensures ∙ (ap (λ j. min j c.depth-n.result) m ∙ ap (min _) n) in
    let least = c.shared_depth-least.result in
    IfOk-weaker c.fit_closing.result (λ q. IsFirst s d from to (map (λ j. closing_at d from to (least + j)) (falling (c.min.result - least))) (option_map step_in q)) (λ q. option_map step_in q ≡ fit_step s d from to sl)
    (λ q h. fits-closed s d from to sl o p (option_map step_in q) f no g none (sym c.size.ensures.size ∙ (let z : c.size.result ≡ 0 = omega (arith, c.if-size-gt0.false) in z)) (as-closers s d from to sl least c.min.result (option_map step_in q) i k h)) c.fit_closing.ensures.step
