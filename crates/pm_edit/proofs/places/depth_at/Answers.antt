use Rattle.std.proofs.Common.{◌≡◌, ◌∙◌, arith}
use Rattle.pm_tokens.specs.Scan.{depth_at}
use Rattle.pm_edit.proofs.MeetLaws.{depth-bound}
use Rattle.pm_edit.proofs.places.depth_at.Goals as goal
use Rattle.pm_fit.proofs.HollowLaws.{depth-as}

pub returns-clause-bound : goal.returns-clause-bound
returns-clause-bound c =
    let d = c.args.doc.now in
    let e : c.depth-depth.result ≡ depth_at d.tokens c.args.pos = c.depth-depth.ensures ∙ depth-as _ _ _ _ c.in_ok-place.ensures.document c.in_ok-place.ensures.position in
    omega (arith, e, depth-bound d.tokens c.args.pos)
