use Rattle.pm_authority.proofs.RunFolds.{run-fold}
use Rattle.pm_remote.proofs.Applying.{never-refused}
use Rattle.pm_remote.proofs.hearing.apply_own.Goals as goal

pub returns-in-Ok : goal.returns-in-Ok
returns-in-Ok g c = run-fold g.C.Change.means c.args.rules.now c.args.base.now c.in-Ok.end 0 c.args.steps.now c.in-Ok.ensures

pub unreachable-requires : goal.unreachable-requires
unreachable-requires g c =
    never-refused g.C.Change.means c.args.rules.now c.args.base.now c.args.steps.now c.in-Err-Reason.field-0 c.in-Err-Reason.field-0-0 c.requires.applies
    c.in-Err-Reason.field-0-is c.in-Err-Reason.ensures
