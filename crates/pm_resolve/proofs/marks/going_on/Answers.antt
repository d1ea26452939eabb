use Rattle.std.proofs.Common.{◌≤◌, ◌∙◌, ap, sym, arith, length}
use Rattle.pm_resolve.specs.Places.{inclusive_in}
use Rattle.pm_resolve.proofs.MarkLaws.{is_kept, swept-end, swept-all}
use Rattle.pm_resolve.proofs.marks.going_on.Goals as goal

pub returns : goal.returns
returns c =
    let kept = is_kept (inclusive_in c.args.schema.now.spec) c.args.other.now in
    let end : length c.args.marks.now ≤ c.loop-mark.mark-index = omega (arith, c.loop-mark-test.false, ap length c.marks-mark-items.ensures) in
    sym (swept-end kept c.args.marks.now c.loop-mark.mark-index c.loop-mark.left end) ∙ (c.loop-mark.invariant ∙ swept-all kept c.args.marks.now)
