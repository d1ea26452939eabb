use Rattle.std.proofs.Common.{◌≡◌, ◌≤◌, ◌+◌, ◌-◌, ◌^◌, [], drop, arith}
use Rattle.std.specs.Prelude.{min}
use Rattle.std.proofs.lemmas.List.{drop_all}
use Rattle.pm_call.specs.Summing.{dropped_in}
use Rattle.pm_call.proofs.summing.dropped_in.Goals as goal

pub returns : goal.returns
returns c =
    let none : drop c.loop-member.member-index c.args.members.now ≡ [] = drop_all c.loop-member.member-index c.args.members.now (omega arith) in
    let counted = c.loop-member.invariant.counted in
    let all : min (c.loop-member.dropped + 0) (2 ^ 64 - 1) ≡ dropped_in c.args.members.now = rw none at counted in
    let small : c.loop-member.dropped ≤ 2 ^ 64 - 1 = c.loop-member.invariant.small in
    omega (arith, all, small)
