use Rattle.std.proofs.Common.{sym, ◌∙◌, arith}
use Rattle.pm_expr.proofs.Scans.{skips-at}
use Rattle.pm_expr.proofs.scan.skip_blanks.Goals as goal

pub loop-end-preserved : goal.loop-end-preserved
loop-end-preserved c = record {
  order = omega arith;
  within = omega arith;
  same = c.loop-end.invariant.same ∙ skips-at c.args.inside c.args.text.now c.loop-end.end c.loop-end-test.true (sym c.is_blank.ensures ∙ c.if-is_blank.true);
}
