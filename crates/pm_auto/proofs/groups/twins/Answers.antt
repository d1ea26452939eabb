use Rattle.std.proofs.Common.{◌∙◌, ap, arith, length-append, [], ◌∷◌, length}
use Rattle.pm_auto.proofs.GroupLaws.{twins-more}
use Rattle.pm_auto.proofs.groups.twins.Goals as goal

pub loop-row-preserved : goal.loop-row-preserved
loop-row-preserved c =
    let inv = c.loop-row.invariant in
    let n = ap length c.in_ok-push.ensures.ok ∙ length-append c.loop-row.list (c.first_of.result ∷ []) in
    record {
      full = omega (arith, n, inv.full);
      twin = λ p h. rw c.in_ok-push.ensures.ok (twins-more c.args.rows.now c.loop-row.list c.loop-row.row-index c.first_of.result c.row-item.result inv.full c.loop-row-test.true c.row-item.is c.first_of.ensures inv.twin p h);
    }
