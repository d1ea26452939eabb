use Rattle.std.proofs.Common.{length, ap, arith}
use Rattle.std.specs.Arc.{arc_value}
use Rattle.std.proofs.lemmas.Result.{on_ok_weaker, on_err_weaker}
use Rattle.pm_sized.specs.Parts.{values_in, chunk_values, group_values}
use Rattle.pm_sized.proofs.PuttingLaws.{total-groups, laid-put, values-put, values-kept}
use Rattle.pm_sized.proofs.grouping.Groups+Arc+T+Global.put_small.Goals as goal

pub put-requires-clause-room : goal.put-requires-clause-room
put-requires-clause-room g c =
    let n = c.close.new.self in
    omega (arith, c.requires.room, total-groups n (group_values c.args.self.now) (ap values_in c.in_ok-close.ensures.same))

pub returns-clause-laid : goal.returns-clause-laid
returns-clause-laid g c =
    let n = c.close.new.self in
    let v = arc_value c.args.chunk in
    let k = c.in_ok-close.ensures in
    let p = c.put.ensures in
    laid-put n (group_values c.args.self.now) (ap values_in k.same) c.put.new.self c.put.result (chunk_values v) (length v.items.items) k.laid p.laid k.open (λ h. c.requires.small (omega (arith, h, k.fewer))) p.chunks p.ok p.err c.requires.room

pub returns-clause-ok : goal.returns-clause-ok
returns-clause-ok g c =
    let n = c.close.new.self in
    on_ok_weaker c.put.result (values-put n (group_values c.args.self.now) (ap values_in c.in_ok-close.ensures.same) c.put.new.self (chunk_values (arc_value c.args.chunk))) c.put.ensures.ok

pub returns-clause-err : goal.returns-clause-err
returns-clause-err g c =
    let n = c.close.new.self in
    on_err_weaker c.put.result (values-kept n (group_values c.args.self.now) (ap values_in c.in_ok-close.ensures.same) c.put.new.self) c.put.ensures.err
