use Rattle.std.proofs.Common.{◌∙◌, sym}
use Rattle.pm_tokens.specs.Scan.{depth_at}
use Rattle.pm_slice.specs.Sides.{sides}
use Rattle.pm_fit.specs.Candidates.{peelings}
use Rattle.pm_fit.proofs.PlaceLaws.{depth-is}
use Rattle.pm_fit.proofs.FitLaws.{wrap-not}
use Rattle.pm_fit.proofs.target.Target.fit_between.Goals as goal

pub returns-then-depth-clause-step : goal.returns-then-depth-clause-step
returns-then-depth-clause-step c = λ most a b l.
    let r = c.args.self.now in
    let d = r.doc.now in
    let x = c.args.left.now in
    let y = c.args.right.now in
    let m = depth-is x.doc d x.pos r.from c.depth-depth.result c.requires.start_in c.requires.start c.depth-depth.ensures in
    let n = depth-is y.doc d y.pos r.to c.depth.result c.requires.end_in c.requires.end c.depth.ensures in
    wrap-not r.schema.now d r.from r.to (depth_at d.tokens r.from) (depth_at d.tokens r.to) (λ e. c.if-depth.true (m ∙ (e ∙ sym n))) (peelings most (sides c.args.content.now a b))
