use Rattle.std.proofs.Common.{◌∙◌}
use Rattle.pm_auto.proofs.search.sweep.Goals as goal

pub loop-i-preserved : goal.loop-i-preserved
loop-i-preserved c =
    let known = c.loop-i.invariant in
    record {
      size = c.mark.ensures.size ∙ known.size;
      keeps = λ s h. c.mark.ensures.keeps s (known.keeps s h);
      reach = λ goals g h. c.mark.ensures.reach goals g (known.reach goals g h);
    }
