use Rattle.pm_slice.proofs.CutWalk.{across-made, across-kept}
use Rattle.pm_slice.proofs.cutting.cut_across.Goals as goal

pub invariant_of-result : goal.invariant_of-result
invariant_of-result c =
    across-kept c.args.content.now c.in_ok-made.made c.args.from c.args.to c.depth_at-open_start.result c.depth_at-open_end.result c.size.ensures.whole c.requires.within c.requires.flat c.in_ok-made.ensures.tokens c.depth_at-open_start.ensures.depth c.depth_at-open_end.ensures.depth

pub returns : goal.returns
returns c =
    across-made c.args.content.now c.in_ok-made.made c.args.from c.args.to c.depth_at-open_start.result c.depth_at-open_end.result c.size.ensures.whole c.requires.within c.requires.flat c.in_ok-made.ensures.tokens c.depth_at-open_start.ensures.depth c.depth_at-open_end.ensures.depth
