use Rattle.std.proofs.Common.{◌≡◌, ◌+◌, [], sym, ◌∙◌, ap, length, drop, arith}
use Rattle.std.specs.Prelude.{slice_range}
use Rattle.pm_expr.specs.Tokens.{tokens_from, completed}
use Rattle.pm_expr.proofs.Scans.{run-goes-at, range-more, run-ends-at, length-range}
use Rattle.pm_expr.proofs.scan.run_end.Goals as goal

pub loop-end-preserved : goal.loop-end-preserved
loop-end-preserved c =
    let text = c.args.text.now in
    let end = c.loop-end.end in
    let here = c.loop-end-test.true in
    record {
      order = omega arith;
      within = omega arith;
      same =
          c.loop-end.invariant.same
          ∙ run-goes-at c.args.inside c.args.at (slice_range text c.args.at end) text end here (sym c.is_in_run.ensures ∙ c.if-is_in_run.true)
          ∙ ap (λ z. tokens_from c.args.inside c.args.at z (drop (end + 1) text)) (sym (range-more text c.args.at end c.loop-end.invariant.order here));
    }

pub returns-else-is_in_run-clause-same : goal.returns-else-is_in_run-clause-same
returns-else-is_in_run-clause-same c =
    let text = c.args.text.now in
    let end = c.loop-end.end in
    let e : c.args.at + length (slice_range text c.args.at end) ≡ end = omega (arith, length-range text c.args.at end c.loop-end.invariant.order c.loop-end.invariant.within) in
    c.loop-end.invariant.same
    ∙ run-ends-at c.args.inside c.args.at (slice_range text c.args.at end) text end c.loop-end.invariant.within (λ _. sym c.is_in_run.ensures ∙ c.if-is_in_run.false)
    ∙ ap (λ z. completed c.args.inside c.args.at (slice_range text c.args.at end) (tokens_from c.args.inside z [] (drop end text))) e
