use Rattle.std.proofs.Common.{[], ◌∷◌, ap, arith}
use Rattle.std.specs.Arc.{arc_value}
use Rattle.std.proofs.lemmas.Result.{on_ok_weaker, on_err_weaker}
use Rattle.pm_sized.specs.Parts.{values_in, group_values}
use Rattle.pm_sized.proofs.PuttingLaws.{total-groups, laid-put, values-put, values-kept}
use Rattle.pm_sized.proofs.grouping.Groups+Arc+T+Global.push.Goals as goal

pub push-requires-clause-room : goal.push-requires-clause-room
push-requires-clause-room g c =
    let n = c.close.new.self in
    omega (arith, c.requires.room, total-groups n (group_values c.args.self.now) (ap values_in c.in_ok-close.ensures.same))

pub returns-clause-laid : goal.returns-clause-laid
returns-clause-laid g c =
    let n = c.close.new.self in
    let k = c.in_ok-close.ensures in
    let p = c.push.ensures in
    laid-put n (group_values c.args.self.now) (ap values_in k.same) c.push.new.self c.push.result ((arc_value c.args.item, c.args.measure) ∷ []) 1 k.laid p.laid k.open (λ _. omega arith) p.chunks p.ok p.err (omega (arith, c.requires.room))

pub returns-clause-ok : goal.returns-clause-ok
returns-clause-ok g c =
    let n = c.close.new.self in
    on_ok_weaker c.push.result (values-put n (group_values c.args.self.now) (ap values_in c.in_ok-close.ensures.same) c.push.new.self ((arc_value c.args.item, c.args.measure) ∷ [])) c.push.ensures.ok

pub returns-clause-err : goal.returns-clause-err
returns-clause-err g c =
    let n = c.close.new.self in
    on_err_weaker c.push.result (values-kept n (group_values c.args.self.now) (ap values_in c.in_ok-close.ensures.same) c.push.new.self) c.push.ensures.err
