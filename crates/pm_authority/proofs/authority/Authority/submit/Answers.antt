use Rattle.pm_authority.proofs.RunFolds.{kept-append}
use Rattle.pm_authority.proofs.authority.Authority.submit.Goals as goal

pub returns-in_ok-append-in-Ok-clause-kept : goal.returns-in_ok-append-in-Ok-clause-kept
returns-in_ok-append-in-Ok-clause-kept g c =
    rw (c.in_ok-append-in-Ok.ensures.ok, c.in_ok-added-in-Ok.ensures)
    (kept-append g.C.Change.means c.args.rules.now g.met.C.Change.laws c.args.self.now c.in-Ok.doc c.args.steps.now c.requires c.in-Ok.ensures)
