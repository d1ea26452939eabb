use Rattle.std.proofs.Common.{arith}
use Rattle.pm_node.proofs.TouchedLaws.{list-lengths}
use Rattle.pm_node.proofs.touched.back_at.Goals as goal

pub overflow_sub-size : goal.overflow_sub-size
overflow_sub-size c = omega (arith, c.in_ok-left.ensures.place, list-lengths c.args.old.now c.in_ok-left.left, c.size.ensures)

pub overflow_sub-size-2 : goal.overflow_sub-size-2
overflow_sub-size-2 c = omega (arith, c.in_ok-right.ensures.place, list-lengths c.args.new.now c.in_ok-right.right, c.size-2.ensures)

pub returns-then-size-start : goal.returns-then-size-start
returns-then-size-start c =
    let l = c.in_ok-left.ensures in
    let r = c.in_ok-right.ensures in
    record {
      within = l.within;
      new_within = r.within;
      same = omega (arith, c.if-size-start.true, l.place, r.place, list-lengths c.args.old.now c.in_ok-left.left, list-lengths c.args.new.now c.in_ok-right.right, c.size.ensures, c.size-2.ensures);
      behind = omega (arith, l.behind, l.place);
    }
