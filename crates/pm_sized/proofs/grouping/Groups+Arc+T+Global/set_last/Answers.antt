use Rattle.std.proofs.Common.{ap, arith}
use Rattle.std.specs.Arc.{arc_value}
use Rattle.std.proofs.lemmas.Result.{on_ok_weaker, on_err_weaker}
use Rattle.pm_sized.specs.Pairs.{many_pairs}
use Rattle.pm_sized.specs.Parts.{values_in, group_values}
use Rattle.pm_sized.proofs.PartLaws.{length-values}
use Rattle.pm_sized.proofs.PuttingLaws.{total-last, laid-set, values-set, values-kept}
use Rattle.pm_sized.proofs.grouping.Groups+Arc+T+Global.set_last.Goals as goal

pub set_last-requires-clause-some : goal.set_last-requires-clause-some
set_last-requires-clause-some g c = omega (arith, c.in_ok-reopen.ensures.some, length-values (many_pairs c.reopen.new.self.rest))

pub set_last-requires-clause-room : goal.set_last-requires-clause-room
set_last-requires-clause-room g c =
    let n = c.reopen.new.self in
    let k = c.in_ok-reopen.ensures in
    omega (arith, c.requires.room, total-last n (group_values c.args.self.now) (ap values_in k.same) (omega (arith, k.some, length-values (many_pairs n.rest))))

pub returns-clause-laid : goal.returns-clause-laid
returns-clause-laid g c =
    let n = c.reopen.new.self in
    let k = c.in_ok-reopen.ensures in
    let p = c.set_last.ensures in
    laid-set n (group_values c.args.self.now) (ap values_in k.same) c.set_last.new.self c.set_last.result (arc_value c.args.item, c.args.measure) k.laid p.laid (omega (arith, k.some, length-values (many_pairs n.rest))) p.chunks p.ok p.err c.requires.room

pub returns-clause-ok : goal.returns-clause-ok
returns-clause-ok g c =
    let n = c.reopen.new.self in
    let k = c.in_ok-reopen.ensures in
    on_ok_weaker c.set_last.result (values-set n (group_values c.args.self.now) (ap values_in k.same) c.set_last.new.self (arc_value c.args.item, c.args.measure) (omega (arith, k.some, length-values (many_pairs n.rest)))) c.set_last.ensures.ok

pub returns-clause-err : goal.returns-clause-err
returns-clause-err g c =
    let n = c.reopen.new.self in
    on_err_weaker c.set_last.result (values-kept n (group_values c.args.self.now) (ap values_in c.in_ok-reopen.ensures.same) c.set_last.new.self) c.set_last.ensures.err
