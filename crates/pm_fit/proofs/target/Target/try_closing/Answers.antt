use Rattle.std.specs.Prelude.{option_map}
use Rattle.std.proofs.Common.{◌≡◌, ◌-◌, ◌≤◌, ◌++◌, ◌∷◌, [], length, ap, sym, ◌∙◌, subst, arith}
use Rattle.std.proofs.lemmas.Result.{IfOk-weaker}
use Rattle.pm_tokens.specs.Tokens.{Doc}
use Rattle.pm_tokens.specs.Scan.{depth_at}
use Rattle.pm_schema.specs.Documents.{documents_of}
use Rattle.pm_fit.specs.Fitteds.{step_in}
use Rattle.pm_fit.specs.Candidates.{hollow, closing_at}
use Rattle.pm_fit.specs.Fits.{sided, step_with}
use Rattle.pm_fit.specs.Firsts.{IsFirst}
use Rattle.pm_fit.proofs.HollowLaws.{length-hollow, hollow-as, depth-as}
use Rattle.pm_fit.proofs.FitLaws.{closing-one}
use Rattle.pm_fit.proofs.target.Target.try_closing.Goals as goal

pub push_hollow-requires-2-clause-room : goal.push_hollow-requires-2-clause-room
push_hollow-requires-2-clause-room c =
    let x = c.args.left.now in
    let y = c.args.right.now in
    let j = c.args.depth in
    let f : depth_at x.doc.tokens x.pos ≤ 48 = subst (λ (z : Doc). depth_at z.tokens x.pos ≤ 48) (sym c.requires.start_in) (c.requires.valid.depth x.pos) in
    let g : depth_at y.doc.tokens y.pos ≤ 48 = subst (λ (z : Doc). depth_at z.tokens y.pos ≤ 48) (sym c.requires.end_in) (c.requires.valid.depth y.pos) in
    let is : c.push_hollow.new.made ≡ hollow x.doc x.pos j (depth_at x.doc.tokens x.pos - j) = c.in_ok-push_hollow.ensures ∙ ap (λ z. z ++ hollow x.doc x.pos j (depth_at x.doc.tokens x.pos - j)) c.new-content.ensures in
    omega (arith, f, g, ap length is, length-hollow x.doc x.pos j (depth_at x.doc.tokens x.pos - j))

pub returns-clause-step : goal.returns-clause-step
returns-clause-step c =
    let r = c.args.self.now in
    let d = r.doc.now in
    let x = c.args.left.now in
    let y = c.args.right.now in
    let j = c.args.depth in
    let left = hollow x.doc x.pos j (depth_at x.doc.tokens x.pos - j) in
    let right = hollow y.doc y.pos j (depth_at y.doc.tokens y.pos - j) in
    let made = c.push_hollow-2.new.made in
    let is : made ≡ left ++ right = c.in_ok-push_hollow-2.ensures ∙ ap (λ z. z ++ right) (c.in_ok-push_hollow.ensures ∙ ap (λ z. z ++ left) c.new-content.ensures) in
    let same = is ∙ (ap (λ z. z ++ right) (hollow-as x.doc d x.pos r.from j c.requires.start_in c.requires.start) ∙ ap (λ z. hollow d r.from j (depth_at d.tokens r.from - j) ++ z) (hollow-as y.doc d y.pos r.to j c.requires.end_in c.requires.end)) in
    let a = ap (λ i. i - j) (c.depth.ensures ∙ depth-as x.doc d x.pos r.from c.requires.start_in c.requires.start) in
    let b = ap (λ i. i - j) (c.depth-2.ensures ∙ depth-as y.doc d y.pos r.to c.requires.end_in c.requires.end) in
    IfOk-weaker c.try_sides.result (λ o. option_map step_in o ≡ step_with (documents_of r.schema.now.spec) d r.from r.to (sided made (c.depth.result - j) (c.depth-2.result - j))) (λ o. IsFirst r.schema.now d r.from r.to (closing_at d r.from r.to j ∷ []) (option_map step_in o))
    (λ o h. closing-one r.schema.now d r.from r.to j made (c.depth.result - j) (c.depth-2.result - j) (option_map step_in o) same a b h) c.try_sides.ensures.step
