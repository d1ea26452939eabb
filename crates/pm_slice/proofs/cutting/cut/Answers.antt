use Rattle.std.proofs.Common.{arith, subst}
use Rattle.pm_slice.specs.Cuts.{IsCut}
use Rattle.pm_slice.proofs.CutWalk.{is-cut}
use Rattle.pm_slice.proofs.cutting.cut.Goals as goal

pub returns : goal.returns
returns c =
    let ts = c.content-content.result.now in
    subst (λ ts. IsCut ts c.args.from c.args.to c.in_ok-made.made) c.content-content.ensures
    (is-cut ts c.args.from c.args.to c.in_ok-made.made c.size-size.ensures.whole (omega arith) (omega (arith, c.if-size-to.false, c.size-size.ensures.size)) c.in_ok-made.ensures)
