use Rattle.std.proofs.Common.{refl}
use Rattle.pm_sized.proofs.HalfLaws.{among-upper, among-lower}
use Rattle.pm_sized.proofs.halves.search.Goals as goal

pub loop-high-preserved-then-reaches : goal.loop-high-preserved-then-reaches
loop-high-preserved-then-reaches g c =
    let l = c.loop-high in
    among-upper c.args.starts.now c.args.pos l.low l.high c.args.steps.now l.steps _ c.reaches.new.self l.invariant c.loop-high-test.true refl c.reaches.ensures.one (c.reaches.ensures.yes c.if-reaches.true)

pub loop-high-preserved : goal.loop-high-preserved
loop-high-preserved g c =
    let l = c.loop-high in
    among-lower c.args.starts.now c.args.pos l.low l.high c.args.steps.now l.steps _ c.reaches.new.self l.invariant c.loop-high-test.true refl c.reaches.ensures.one (c.reaches.ensures.no c.if-reaches.false)
