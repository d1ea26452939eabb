use Rattle.std.proofs.Common.{sym, subst}
use Rattle.pm_session.specs.Events.{state_of}
use Rattle.pm_session.specs.Sounds.{AllCaughtUp}
use Rattle.pm_versions.proofs.Lates.{ok-any, settled-late, settling-late}
use Rattle.pm_versions.proofs.late.LateRoom.settle.Goals as goal

pub returns-in_err-settle-clause-kept : goal.returns-in_err-settle-clause-kept
returns-in_err-settle-clause-kept g c =
    settling-late g.C.Change.means c.args.rules.now g.met.C.Change.laws c.reach.new.self c.settle.new.self c.reach.ensures.kept c.settle.ensures.sound c.in_err-settle.ensures.left

pub reach-requires-2 : goal.reach-requires-2
reach-requires-2 g c =
    settled-late g.C.Change.means c.args.rules.now g.met.C.Change.laws c.reach.new.self c.settle.new.self c.reach.ensures.kept c.settle.ensures.sound c.in_ok-settle.ensures.settles

pub returns-clause-caught_up : goal.returns-clause-caught_up
returns-clause-caught_up g c =
    ok-any c.reach-2.result (subst (λ r. AllCaughtUp (state_of r)) (sym c.reach-2.ensures.room) c.in_ok-settle.ensures.caught_up)
