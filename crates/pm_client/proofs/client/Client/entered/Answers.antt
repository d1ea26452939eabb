use Rattle.std.proofs.Common.{sym, subst}
use Rattle.pm_client.specs.Kins.{Kin}
use Rattle.pm_client.proofs.Entering.{kin-entered}
use Rattle.pm_client.proofs.client.Client.entered.Goals as goal

pub returns-clause-kin : goal.returns-clause-kin
returns-clause-kin g c rules first log good applies long foreign =
    let m = g.C.Change.means in
    subst (λ x. Kin m rules first log (record x { version = c.args.version })) (sym c.in_ok-client.ensures.new)
    (kin-entered m rules c.args.name c.args.version first c.args.doc log good applies long foreign)
