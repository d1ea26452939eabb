use Rattle.std.proofs.Common.{min, ap, ◌∙◌}
use Rattle.pm_authors.proofs.Pieces.{one-copied}
use Rattle.pm_authors.proofs.copying.copy_part.Goals as goal

pub loop-run-preserved : goal.loop-run-preserved
loop-run-preserved c =
    let l = c.loop-run in
    record {
      copied = one-copied c.args.runs.now l.run-index _ l.left l.passing c.min-taken.result _ _ _ _ c.loop-run-test.true
          (c.min-taken.ensures ∙ ap (λ k. min k l.left) c.saturating_sub.ensures) c.saturating_sub-passing.ensures c.in_ok-add.ensures.tokens l.invariant.copied;
      maximal = λ m. c.in_ok-add.ensures.maximal (l.invariant.maximal m);
    }
