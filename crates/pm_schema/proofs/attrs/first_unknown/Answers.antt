use Rattle.std.proofs.Common.{◌<◌, ◌∙◌, ap, not, length, arith, below_more}
use Rattle.pm_schema.proofs.Pairs.{length-pairs, unknown-at}
use Rattle.pm_schema.proofs.attrs.first_unknown.Goals as goal

pub loop-index-preserved : goal.loop-index-preserved
loop-index-preserved c =
    let l : c.loop-index.index < length c.args.given.now = omega (arith, c.loop-index-test.true) in
    below_more _ _ c.loop-index.invariant
    (unknown-at c.args.attrs.now c.args.given.now c.loop-index.index c.index-given-index.result c.as_str.result.now c.declares.result l c.index-given-index.is c.as_str.ensures.value c.declares.ensures
    ∙ ap not c.if-not-declares.false)

pub returns : goal.returns
returns c = λ j l. c.loop-index.invariant j (omega (arith, l, length-pairs c.args.given.now, c.loop-index-test.false))
